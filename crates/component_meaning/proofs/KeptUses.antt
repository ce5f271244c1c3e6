-- Items name what is seen: each name that is used is accepted only where it is seen, and stands for something of the kind
-- that is wanted.
use Rattle.std.proofs.Common.{◌≡◌, ℕ, zero, suc, ◌+◌, not, Bool, true, false, List, [], ◌∷◌, ◌++◌, length, Some, None, Option, is_none, is_some, unwrap_or, refl, sym, ap, subst, ◌∙◌}
use Rattle.std.specs.List.{list_any}
use Rattle.std.specs.Option.{option_and_then}
use Rattle.grammar.specs.Table.{production_at}
use Rattle.grammar.proofs.Theory.{or_left, or_right}
use Rattle.values.specs.declared.code.Code.TheVariants.{Empty}
use Rattle.values.specs.declared.expr.Expr.{Expr}
use Rattle.values.specs.Texts.{index_of}
use Rattle.text_lexer.specs.declared.token.Token.{Token}
use Rattle.text_lexer.specs.Tokens.{Lexed}
use Rattle.text_grammar.specs.Component.{Symbols, productions}
use Rattle.text_grammar.specs.declared.component.Action.{Action}
use Rattle.text_grammar.specs.declared.component.Action.TheVariants as action
use Rattle.text_grammar.specs.declared.component.Rule.{Rule}
use Rattle.text_grammar.specs.declared.component.Rule.TheVariants as rule
use Rattle.text_grammar.specs.declared.component.Terminal.{Terminal}
use Rattle.text_grammar.specs.declared.component.Terminal.TheVariants as terminal
use Rattle.component_items.specs.declared.component.Attr.TheVariants as attr
use Rattle.component_items.specs.declared.component.Component.{Component}
use Rattle.component_items.specs.declared.component.Item.{Item}
use Rattle.component_items.specs.declared.component.Item.TheVariants as item
use Rattle.component_items.specs.Kept.{Known, known_value, known_resource, known_store, Sight, is_value, is_part_of, may_read, sees_all_of, may_declare, may_have_resource, may_have_memo, items_see, nothing_seen}
use Rattle.component_items.specs.Kept as kept
use Rattle.component_meaning.specs.State.{State, start, Declared, Rows, Frame, area_frame, if_frame, each_frame, element_frame, Open, standing_in, rows_in, signal_name, memo_name, effect_name, resource_name, load_name, store_name, area_name}
use Rattle.component_meaning.specs.Names.{bytes_of, declared_as, id_of, rows_from, is_seen, is_other, has_value, is_resource, is_store, part_of, part_in}
use Rattle.component_meaning.specs.Checks.{failed, unknown_name, wrong_place}
use Rattle.component_meaning.specs.Effects.{effect}
use Rattle.component_meaning.specs.Actions.{rest, top_operand, whole, taken, known_as, with_numbered, perform}
use Rattle.component_meaning.specs.Component.{IsComponent}
use Rattle.component_meaning.proofs.KeptAlong.{passes, walk, IsWalk, walked_to_the_end}
use Rattle.component_meaning.proofs.KeptFalling.{Fall, start_falls, keeps_falling}
use Rattle.component_meaning.proofs.KeptNames.{knowns, value_found, resource_found, store_found, store_is_there, wanted_one, named_by, part_is}
use Rattle.component_meaning.proofs.KeptSight.{lit_sees, read_sees, binary_sees, if_sees, IsSeeing, signal_sees, memo_sees, effect_sees, resource_sees, load_sees, store_sees, cleanup_sees, text_sees, shown_sees}
use Rattle.component_meaning.proofs.KeptSeen.{sight, IsRowed, AllSee, Sees, MayAdd, adds_nothing, item_seen, frame_seen, same_seen, closed_seen, attr_seen, row_seen}

-- ---- what is known at a place

data Fact : Type 0 where
  nothing : Fact
  -- what is declared here is no item of an element
  in_no_element : Fact
  -- so it is, and what is used is a resource
  uses_resource : Fact
  -- what is used is a store
  uses_store : Fact

-- a fact, and how many operands wait
data Place : Type 0 where
  at : Fact → ℕ → Place

abbrev InNoElement : List Open → Type 0
InNoElement [] = Unit {0}
InNoElement (o ∷ outer) = no_element o.frame
  where
    no_element : Frame → Type 0
    no_element (element_frame tag closed attrs) = ⊥
    no_element _ = Unit {0}

abbrev Means : Fact → List Declared → List Open → Option Declared → Type 0
Means nothing seen opened used = Unit {0}
Means in_no_element seen opened used = InNoElement opened
Means uses_resource seen opened used = InNoElement opened × (list_any (kept.is_resource (id_of used)) (knowns seen) ≡ true)
Means uses_store seen opened used = IsRowed (rows_from used) (knowns seen)

-- the operands that wait name what is seen
abbrev Good : ℕ → List Expr → Sight → Type 0
Good zero operands s = Unit {0}
Good (suc n) [] s = Unit {0}
Good (suc n) (e ∷ operands) s = (sees_all_of e s ≡ true) × Good n operands s

record IsSo (f : Fact) (n : ℕ) (items : List Item) (seen : List Declared) (opened : List Open) (used : Option Declared) (operands : List Expr) : Type 0 where
  sees : AllSee items seen opened
  means : Means f seen opened used
  good : Good n operands (sight seen opened)

abbrev Holds : Place → State → Option Lexed → Type 0
Holds (at f n) a known = IsSo f n a.items a.seen a.opened a.used a.operands

abbrev term : Terminal → Place → Option Place
term terminal.Signal (at f n) = Some (at in_no_element n)
term terminal.Memo (at f n) = Some (at in_no_element n)
term terminal.Resource (at f n) = Some (at in_no_element n)
term terminal.Load (at f n) = Some (at in_no_element n)
term terminal.Store (at f n) = Some (at in_no_element n)
term terminal.UsedResource (at in_no_element n) = Some (at uses_resource n)
term terminal.UsedResource (at _ n) = None
term terminal.UsedStore (at f n) = Some (at uses_store n)
term terminal.UsedName (at f n) = Some (at f (suc n))
term terminal.RowField (at f n) = Some (at f (suc n))
term _ now = Some now

abbrev none_waits : Place → Option Place
none_waits (at f zero) = Some (at nothing zero)
none_waits (at f (suc n)) = None

abbrev one_waits : Place → Option Place
one_waits (at f (suc zero)) = Some (at nothing zero)
one_waits (at f _) = None

abbrev act : Action → Place → Option Place
act action.MakeSignal (at in_no_element zero) = Some (at nothing zero)
act action.MakeSignal (at _ _) = None
act action.MakeMemo (at in_no_element (suc zero)) = Some (at nothing zero)
act action.MakeMemo (at _ _) = None
act action.MakeEffect now = one_waits now
act action.MakeResource (at in_no_element zero) = Some (at nothing zero)
act action.MakeResource (at _ _) = None
act action.MakeLoad (at uses_resource (suc zero)) = Some (at nothing zero)
act action.MakeLoad (at _ _) = None
act action.MakeStore (at in_no_element zero) = Some (at nothing zero)
act action.MakeStore (at _ _) = None
act action.MakeCleanup now = none_waits now
act action.MakeText now = none_waits now
act action.MakeShown now = one_waits now
act action.OpenArea now = none_waits now
act action.OpenIf now = one_waits now
act action.OpenEach (at uses_store zero) = Some (at nothing zero)
act action.OpenEach (at _ _) = None
act action.OpenElement now = none_waits now
act action.OpenVoid now = none_waits now
act action.Close now = none_waits now
act action.MakeBare now = none_waits now
act action.MakeFixed now = none_waits now
act action.MakeShownAttribute now = one_waits now
act action.MakeLiteral (at f n) = Some (at f (suc n))
act (action.MakeBinary op) (at f (suc (suc n))) = Some (at f (suc n))
act (action.MakeBinary op) (at f _) = None
act action.MakeIf (at f (suc (suc (suc n)))) = Some (at f (suc n))
act action.MakeIf (at f _) = None
act _ now = Some now

abbrev from_nothing : Place → Option Place
from_nothing (at nothing zero) = Some (at nothing zero)
from_nothing (at _ _) = None

abbrev some_wait : Place → Option Place
some_wait (at f zero) = None
some_wait (at f (suc n)) = Some (at f (suc n))

-- an expression leaves one operand more
abbrev through : Rule → Place → Option Place
through rule.Component now = from_nothing now
through rule.Items now = from_nothing now
through rule.Element now = from_nothing now
through rule.VoidTagMore now = from_nothing now
through rule.ElementRest now = from_nothing now
through rule.ElementEnd now = from_nothing now
through rule.Attributes now = from_nothing now
through rule.AttributeValue now = from_nothing now
through rule.AssignedValue now = from_nothing now
through rule.Expression (at f n) = Some (at f (suc n))
through rule.Test (at f n) = Some (at f (suc n))
through rule.Sum (at f n) = Some (at f (suc n))
through rule.Term (at f n) = Some (at f (suc n))
through rule.Atom (at f n) = Some (at f (suc n))
through rule.TestMore now = some_wait now
through rule.SumMore now = some_wait now
through rule.TermMore now = some_wait now
through _ now = Some now

-- ---- productions lead to what their rules promise

abbrev EachLeads : List Symbols → Place → Place → Type 0
EachLeads [] now after = Unit {0}
EachLeads (body ∷ bodies) now after = (walk term act through body now ≡ Some after) × EachLeads bodies now after

lead_at : (bodies : List Symbols) (i : ℕ) (body : Symbols) (now after : Place) → EachLeads bodies now after → production_at bodies i ≡ Some body → walk term act through body now ≡ Some after
lead_at [] i body now after each is = absurd cc
lead_at (b ∷ bodies) zero body now after each is = let same : b ≡ body = cc in subst (λ (s : Symbols). walk term act through s now ≡ Some after) same each.0
lead_at (b ∷ bodies) (suc i) body now after each is = lead_at bodies i body now after each.1 is

from_nothing_only : (now after : Place) → from_nothing now ≡ Some after → (now ≡ at nothing zero) × (after ≡ at nothing zero)
from_nothing_only (at nothing zero) after goes = (refl, cc)
from_nothing_only (at nothing (suc n)) after goes = absurd cc
from_nothing_only (at in_no_element n) after goes = absurd cc
from_nothing_only (at uses_resource n) after goes = absurd cc
from_nothing_only (at uses_store n) after goes = absurd cc

leads_from : (r : Rule) (now after : Place) → EachLeads (productions r) (at nothing zero) (at nothing zero) → from_nothing now ≡ Some after → EachLeads (productions r) now after
leads_from r now after each goes =
    let only = from_nothing_only now after goes in
    subst (λ (p : Place). EachLeads (productions r) p after) (sym only.0) (subst (λ (p : Place). EachLeads (productions r) (at nothing zero) p) (sym only.1) each)

each_leads : (r : Rule) (now after : Place) → through r now ≡ Some after → EachLeads (productions r) now after
each_leads rule.Component now after goes = leads_from rule.Component now after (refl, tt) goes
each_leads rule.Items now after goes = leads_from rule.Items now after (refl, (refl, (refl, (refl, (refl, (refl, (refl, (refl, (refl, (refl, (refl, (refl, (refl, (refl, tt)))))))))))))) goes
each_leads rule.Element now after goes = leads_from rule.Element now after (refl, (refl, tt)) goes
each_leads rule.VoidTagMore now after goes = leads_from rule.VoidTagMore now after (refl, (refl, tt)) goes
each_leads rule.ElementRest now after goes = leads_from rule.ElementRest now after (refl, tt) goes
each_leads rule.ElementEnd now after goes = leads_from rule.ElementEnd now after (refl, (refl, tt)) goes
each_leads rule.Attributes now after goes = leads_from rule.Attributes now after (refl, (refl, tt)) goes
each_leads rule.AttributeValue now after goes = leads_from rule.AttributeValue now after (refl, (refl, tt)) goes
each_leads rule.AssignedValue now after goes = leads_from rule.AssignedValue now after (refl, (refl, tt)) goes
each_leads rule.Expression (at f n) after goes = (goes, (goes, tt))
each_leads rule.Test (at f n) after goes = (goes, tt)
each_leads rule.Sum (at f n) after goes = (goes, tt)
each_leads rule.Term (at f n) after goes = (goes, tt)
each_leads rule.Atom (at f n) after goes = (goes, (goes, (goes, (goes, tt))))
each_leads rule.TestMore (at f zero) after goes = absurd cc
each_leads rule.TestMore (at f (suc n)) after goes = (goes, (goes, (goes, tt)))
each_leads rule.SumMore (at f zero) after goes = absurd cc
each_leads rule.SumMore (at f (suc n)) after goes = (goes, (goes, (goes, tt)))
each_leads rule.TermMore (at f zero) after goes = absurd cc
each_leads rule.TermMore (at f (suc n)) after goes = (goes, (goes, (goes, (goes, tt))))
each_leads rule.Pairs (at f n) after goes = (goes, (goes, tt))
each_leads rule.Key (at f n) after goes = (goes, (goes, (goes, (goes, tt))))
each_leads rule.Fields (at f n) after goes = (goes, (goes, tt))
each_leads rule.OpenTagMore (at f n) after goes = (goes, (goes, tt))
each_leads rule.VoidEnd (at f n) after goes = (goes, (goes, tt))
each_leads rule.CloseTagMore (at f n) after goes = (goes, (goes, tt))
each_leads rule.AttributeMore (at f n) after goes = (goes, (goes, tt))
each_leads rule.Literal (at f n) after goes = (goes, (goes, (goes, (goes, tt))))

-- ---- operands

good_rest : (n : ℕ) (operands : List Expr) (s : Sight) → Good (suc n) operands s → Good n (rest operands) s
good_rest zero operands s h = tt
good_rest (suc n) [] s h = tt
good_rest (suc n) (e ∷ operands) s h = h.1

good_top : (n : ℕ) (operands : List Expr) (s : Sight) → Good (suc n) operands s → sees_all_of (top_operand operands) s ≡ true
good_top n [] s h = lit_sees Empty s
good_top n (e ∷ operands) s h = h.0

-- ---- places

un_not : (b : Bool) → not b ≡ false → b ≡ true
un_not true h = refl
un_not false h = absurd cc

declares_there : (opened : List Open) → may_declare (standing_in opened) ≡ true → InNoElement opened
declares_there [] h = tt
declares_there (o ∷ outer) h = by o.frame o.outside o.items h
  where
    by : (frame : Frame) (outside : List Declared) (inner : List Item) → may_declare (standing_in (record { frame = frame; outside = outside; items = inner } ∷ outer)) ≡ true
        → InNoElement (record { frame = frame; outside = outside; items = inner } ∷ outer)
    by (area_frame id name owner) outside inner h = tt
    by (if_frame id cond) outside inner h = tt
    by (each_frame id rows) outside inner h = tt
    by (element_frame tag closed attrs) outside inner h = absurd cc

resource_there : (opened : List Open) → may_have_resource (standing_in opened) ≡ true → InNoElement opened
resource_there [] h = tt
resource_there (o ∷ outer) h = by o.frame o.outside o.items h
  where
    by : (frame : Frame) (outside : List Declared) (inner : List Item) → may_have_resource (standing_in (record { frame = frame; outside = outside; items = inner } ∷ outer)) ≡ true
        → InNoElement (record { frame = frame; outside = outside; items = inner } ∷ outer)
    by (area_frame id name owner) outside inner h = tt
    by (if_frame id cond) outside inner h = tt
    by (each_frame id rows) outside inner h = tt
    by (element_frame tag closed attrs) outside inner h = absurd cc

memo_there : (opened : List Open) → may_have_memo (standing_in opened) ≡ true → InNoElement opened
memo_there [] h = tt
memo_there (o ∷ outer) h = by o.frame o.outside o.items h
  where
    by : (frame : Frame) (outside : List Declared) (inner : List Item) → may_have_memo (standing_in (record { frame = frame; outside = outside; items = inner } ∷ outer)) ≡ true
        → InNoElement (record { frame = frame; outside = outside; items = inner } ∷ outer)
    by (area_frame id name owner) outside inner h = tt
    by (if_frame id cond) outside inner h = tt
    by (each_frame id rows) outside inner h = tt
    by (element_frame tag closed attrs) outside inner h = absurd cc

may_add : (declares : List Known) (opened : List Open) → InNoElement opened → MayAdd declares opened
may_add declares [] h = tt
may_add declares (o ∷ outer) h = by o.frame o.outside o.items h
  where
    by : (frame : Frame) (outside : List Declared) (inner : List Item) → InNoElement (record { frame = frame; outside = outside; items = inner } ∷ outer)
        → MayAdd declares (record { frame = frame; outside = outside; items = inner } ∷ outer)
    by (area_frame id name owner) outside inner h = tt
    by (if_frame id cond) outside inner h = tt
    by (each_frame id rows) outside inner h = tt
    by (element_frame tag closed attrs) outside inner h = elim h [ ]

-- ---- names that are used

value_used : (name : List ℕ) (a : State) → not (is_seen name a) ≡ false → is_other has_value (declared_as name a) ≡ false → may_read (sight a.seen a.opened) (id_of (declared_as name a)) ≡ true
value_used name a seen other = by (declared_as name a) refl seen other
  where
    by : (o : Option Declared) → declared_as name a ≡ o → not (is_some o) ≡ false → is_other has_value o ≡ false → may_read (sight a.seen a.opened) (id_of o) ≡ true
    by None is seen other = absurd cc
    by (Some d) is seen other =
        let n = named_by (index_of name a.texts) a.seen d is in
        or_left _ _ (value_found n.0 a.seen d n.1 (wanted_one has_value (Some d) d refl other))

resource_used : (name : List ℕ) (a : State) → not (is_seen name a) ≡ false → is_other is_resource (declared_as name a) ≡ false → list_any (kept.is_resource (id_of (declared_as name a))) (knowns a.seen) ≡ true
resource_used name a seen other = by (declared_as name a) refl seen other
  where
    by : (o : Option Declared) → declared_as name a ≡ o → not (is_some o) ≡ false → is_other is_resource o ≡ false → list_any (kept.is_resource (id_of o)) (knowns a.seen) ≡ true
    by None is seen other = absurd cc
    by (Some d) is seen other =
        let n = named_by (index_of name a.texts) a.seen d is in
        resource_found n.0 a.seen d n.1 (wanted_one is_resource (Some d) d refl other)

store_used : (name : List ℕ) (a : State) → Fall a → not (is_seen name a) ≡ false → is_other is_store (declared_as name a) ≡ false → IsRowed (rows_from (declared_as name a)) (knowns a.seen)
store_used name a fall seen other = by (declared_as name a) refl seen other
  where
    by : (o : Option Declared) → declared_as name a ≡ o → not (is_some o) ≡ false → is_other is_store o ≡ false → IsRowed (rows_from o) (knowns a.seen)
    by None is seen other = absurd cc
    by (Some d) is seen other =
        let n = named_by (index_of name a.texts) a.seen d is in
        store_found n.0 a.next_id a.seen d n.1 (wanted_one is_store (Some d) d refl other) fall.now

part_used : (name : List ℕ) (a : State) → Sees a → is_none (part_in name a) ≡ false → may_read (sight a.seen a.opened) (unwrap_or (part_in name a) 0) ≡ true
part_used name a sees some = by (rows_in a.opened) refl some
  where
    by : (o : Option Rows) → rows_in a.opened ≡ o → is_none (option_and_then (part_of name a.texts) o) ≡ false → may_read (sight a.seen a.opened) (unwrap_or (option_and_then (part_of name a.texts) o) 0) ≡ true
    by None is some = absurd cc
    by (Some rows) is some =
        let id : ℕ = unwrap_or (part_of name a.texts rows) 0 in
        let around = row_seen a.items a.seen a.opened rows sees is in
        or_right _ _ (ap (is_part_of id) around ∙ part_is name a.texts rows some)

-- ---- tokens

so : (p after : Place) (b : State) (known : Option Lexed) → Some p ≡ Some after → Holds p b known → Holds after b known
so p after b known goes h = let e : p ≡ after = cc in subst (λ (q : Place). Holds q b known) e h

terminals : (bytes : List ℕ) (w : Terminal) (now after : Place) (a : State) (x : Token) (next : Lexed) (known : Option Lexed) → term w now ≡ Some after
    → failed bytes w a x next ≡ None → Fall a → Holds now a known → Holds after (effect bytes w a x) (Some next)
terminals bytes terminal.Signal (at f n) after a x next known goes passed fall h =
    so (at in_no_element n) after (effect bytes terminal.Signal a x) (Some next) goes (record { sees = h.sees; means = declares_there a.opened (un_not _ (passes bytes terminal.Signal a x next wrong_place 4 passed refl)); good = h.good })
terminals bytes terminal.Memo (at f n) after a x next known goes passed fall h =
    so (at in_no_element n) after (effect bytes terminal.Memo a x) (Some next) goes (record { sees = h.sees; means = memo_there a.opened (un_not _ (passes bytes terminal.Memo a x next wrong_place 4 passed refl)); good = h.good })
terminals bytes terminal.Resource (at f n) after a x next known goes passed fall h =
    so (at in_no_element n) after (effect bytes terminal.Resource a x) (Some next) goes (record { sees = h.sees; means = resource_there a.opened (un_not _ (passes bytes terminal.Resource a x next wrong_place 4 passed refl)); good = h.good })
terminals bytes terminal.Load (at f n) after a x next known goes passed fall h =
    so (at in_no_element n) after (effect bytes terminal.Load a x) (Some next) goes (record { sees = h.sees; means = declares_there a.opened (un_not _ (passes bytes terminal.Load a x next wrong_place 4 passed refl)); good = h.good })
terminals bytes terminal.Store (at f n) after a x next known goes passed fall h =
    so (at in_no_element n) after (effect bytes terminal.Store a x) (Some next) goes (record { sees = h.sees; means = declares_there a.opened (un_not _ (passes bytes terminal.Store a x next wrong_place 4 passed refl)); good = h.good })
terminals bytes terminal.UsedResource (at in_no_element n) after a x next known goes passed fall h =
    let used = resource_used (bytes_of bytes x) a (passes bytes terminal.UsedResource a x next unknown_name 3 passed refl) (passes bytes terminal.UsedResource a x next wrong_place 4 passed refl) in
    so (at uses_resource n) after (effect bytes terminal.UsedResource a x) (Some next) goes (record { sees = h.sees; means = (h.means, used); good = h.good })
terminals bytes terminal.UsedResource (at _ n) after a x next known goes passed fall h = absurd cc
terminals bytes terminal.UsedStore (at f n) after a x next known goes passed fall h =
    let used = store_used (bytes_of bytes x) a fall (passes bytes terminal.UsedStore a x next unknown_name 3 passed refl) (passes bytes terminal.UsedStore a x next wrong_place 4 passed refl) in
    so (at uses_store n) after (effect bytes terminal.UsedStore a x) (Some next) goes (record { sees = h.sees; means = used; good = h.good })
terminals bytes terminal.UsedName (at f n) after a x next known goes passed fall h =
    let used = value_used (bytes_of bytes x) a (passes bytes terminal.UsedName a x next unknown_name 3 passed refl) (passes bytes terminal.UsedName a x next wrong_place 4 passed refl) in
    so (at f (suc n)) after (effect bytes terminal.UsedName a x) (Some next) goes (record { sees = h.sees; means = h.means; good = (read_sees _ (sight a.seen a.opened) used, h.good) })
terminals bytes terminal.RowField (at f n) after a x next known goes passed fall h =
    let used = part_used (bytes_of bytes x) a h.sees (passes bytes terminal.RowField a x next unknown_name 3 passed refl) in
    so (at f (suc n)) after (effect bytes terminal.RowField a x) (Some next) goes (record { sees = h.sees; means = h.means; good = (read_sees _ (sight a.seen a.opened) used, h.good) })
terminals bytes w (at f n) after a x next known goes passed fall h =
    so (at f n) after (effect bytes w a x) (Some next) goes (record { sees = h.sees; means = h.means; good = h.good })

-- ---- actions

numbered_seen : (made : ℕ → Item) (count : ℕ) (b : State) (seen : List Declared) (declares : List Known) → AllSee b.items seen b.opened → IsSeeing (made b.next_id) declares (sight seen b.opened)
    → knowns b.seen ≡ declares ++ knowns seen → MayAdd declares b.opened → Sees (with_numbered made count b)
numbered_seen made count b seen declares h one is may = item_seen (made b.next_id) declares (record b { next_id = b.next_id + count }) seen b.seen b.opened h one is may

-- behind an item, and where a block or an element opens or closes, no operand waits
behind : (after : Place) (b : State) (known : Option Lexed) → Some (at nothing zero) ≡ Some after → Sees b → Holds after b known
behind after b known goes sees = so (at nothing zero) after b known goes (record { sees = sees; means = tt; good = tt })

none : (f : Fact) (n : ℕ) (after : Place) → none_waits (at f n) ≡ Some after → Some (at nothing zero) ≡ Some after
none f zero after goes = goes
none f (suc n) after goes = absurd cc

one : (f : Fact) (n : ℕ) (after : Place) (operands : List Expr) (s : Sight) → one_waits (at f n) ≡ Some after → Good n operands s
    → (Some (at nothing zero) ≡ Some after) × (sees_all_of (top_operand operands) s ≡ true)
one f zero after operands s goes good = absurd cc
one f (suc zero) after operands s goes good = (goes, good_top 0 operands s good)
one f (suc (suc n)) after operands s goes good = absurd cc

actions : (d : Action) (now after : Place) (a : State) (known : Option Lexed) → act d now ≡ Some after → Holds now a known → Holds after (perform d a) known
actions action.MakeSignal (at in_no_element zero) after a known goes h =
    behind after (perform action.MakeSignal a) known goes
    (numbered_seen (λ id. item.Signal id a.name a.literal) 1 (known_as signal_name a) a.seen _ h.sees (signal_sees _ _ _ _) refl (may_add _ a.opened h.means))
actions action.MakeSignal (at in_no_element (suc n)) after a known goes h = absurd cc
actions action.MakeSignal (at _ n) after a known goes h = absurd cc
actions action.MakeMemo (at in_no_element (suc zero)) after a known goes h =
    behind after (perform action.MakeMemo a) known goes
    (numbered_seen (λ id. item.Memo id a.name (whole a)) 1 (known_as memo_name (taken a)) a.seen _ h.sees (memo_sees _ _ _ _ (good_top 0 a.operands (sight a.seen a.opened) h.good)) refl (may_add _ a.opened h.means))
actions action.MakeMemo (at in_no_element zero) after a known goes h = absurd cc
actions action.MakeMemo (at in_no_element (suc (suc n))) after a known goes h = absurd cc
actions action.MakeMemo (at _ n) after a known goes h = absurd cc
actions action.MakeEffect (at f n) after a known goes h =
    let whole_sees = one f n after a.operands (sight a.seen a.opened) goes h.good in
    behind after (perform action.MakeEffect a) known whole_sees.0
    (numbered_seen (λ id. item.Effect id a.name (whole a)) 1 (known_as effect_name (taken a)) a.seen _ h.sees (effect_sees _ _ _ _ whole_sees.1) refl (adds_nothing a.opened))
actions action.MakeResource (at in_no_element zero) after a known goes h =
    behind after (perform action.MakeResource a) known goes
    (numbered_seen (λ id. item.Resource id a.name a.number a.keys a.values) 1 (record (known_as resource_name a) { keys = []; values = [] }) a.seen _ h.sees (resource_sees _ _ _ _ _ _) refl (may_add _ a.opened h.means))
actions action.MakeResource (at in_no_element (suc n)) after a known goes h = absurd cc
actions action.MakeResource (at _ n) after a known goes h = absurd cc
actions action.MakeLoad (at uses_resource (suc zero)) after a known goes h =
    behind after (perform action.MakeLoad a) known goes
    (numbered_seen (λ id. item.Load id a.name (id_of a.used) (whole a)) 2 (known_as load_name (taken a)) a.seen _ h.sees
    (load_sees _ _ _ _ _ h.means.1 (good_top 0 a.operands (sight a.seen a.opened) h.good)) refl (may_add _ a.opened h.means.0))
actions action.MakeLoad (at uses_resource zero) after a known goes h = absurd cc
actions action.MakeLoad (at uses_resource (suc (suc n))) after a known goes h = absurd cc
actions action.MakeLoad (at _ n) after a known goes h = absurd cc
actions action.MakeStore (at in_no_element zero) after a known goes h =
    behind after (perform action.MakeStore a) known goes
    (numbered_seen (λ id. item.Store id a.name a.number a.fields a.values) (2 + length a.fields) (record (known_as (store_name a.fields) a) { fields = []; values = [] }) a.seen _ h.sees (store_sees _ _ _ _ _ _) refl (may_add _ a.opened h.means))
actions action.MakeStore (at in_no_element (suc n)) after a known goes h = absurd cc
actions action.MakeStore (at _ n) after a known goes h = absurd cc
actions action.MakeCleanup (at f n) after a known goes h =
    behind after (perform action.MakeCleanup a) known (none f n after goes) (item_seen (item.Cleanup a.written) _ a a.seen a.seen a.opened h.sees (cleanup_sees _ _) refl (adds_nothing a.opened))
actions action.MakeText (at f n) after a known goes h =
    behind after (perform action.MakeText a) known (none f n after goes) (item_seen (item.Text a.written) _ a a.seen a.seen a.opened h.sees (text_sees _ _) refl (adds_nothing a.opened))
actions action.MakeShown (at f n) after a known goes h =
    let whole_sees = one f n after a.operands (sight a.seen a.opened) goes h.good in
    behind after (perform action.MakeShown a) known whole_sees.0 (numbered_seen (λ id. item.Shown id (whole a)) 1 (taken a) a.seen _ h.sees (shown_sees _ _ _ whole_sees.1) refl (adds_nothing a.opened))
actions action.OpenArea (at f n) after a known goes h =
    behind after (perform action.OpenArea a) known (none f n after goes)
    (frame_seen (area_frame a.next_id a.name a.next_owner) a.items (known_as area_name a).seen a.opened (same_seen a.items a.seen (known_as area_name a).seen a.opened refl h.sees) refl tt tt)
actions action.OpenIf (at f n) after a known goes h =
    let whole_sees = one f n after a.operands (sight a.seen a.opened) goes h.good in
    behind after (perform action.OpenIf a) known whole_sees.0 (frame_seen (if_frame a.next_id (whole a)) a.items a.seen a.opened h.sees whole_sees.1 tt tt)
actions action.OpenEach (at uses_store zero) after a known goes h =
    behind after (perform action.OpenEach a) known goes
    (frame_seen (each_frame a.next_id (rows_from a.used)) a.items a.seen a.opened h.sees (store_is_there (rows_from a.used).store (knowns a.seen) _ h.means) h.means tt)
actions action.OpenEach (at uses_store (suc n)) after a known goes h = absurd cc
actions action.OpenEach (at _ n) after a known goes h = absurd cc
actions action.OpenElement (at f n) after a known goes h = behind after (perform action.OpenElement a) known (none f n after goes) (frame_seen (element_frame _ true []) a.items a.seen a.opened h.sees refl tt refl)
actions action.OpenVoid (at f n) after a known goes h = behind after (perform action.OpenVoid a) known (none f n after goes) (frame_seen (element_frame _ false []) a.items a.seen a.opened h.sees refl tt refl)
actions action.Close (at f n) after a known goes h = behind after (perform action.Close a) known (none f n after goes) (closed_seen a a.opened h.sees)
actions action.MakeBare (at f n) after a known goes h = behind after (perform action.MakeBare a) known (none f n after goes) (attr_seen (λ id. attr.Bare a.name) 0 a a.opened h.sees refl)
actions action.MakeFixed (at f n) after a known goes h = behind after (perform action.MakeFixed a) known (none f n after goes) (attr_seen (λ id. attr.Fixed a.name a.written) 0 a a.opened h.sees refl)
actions action.MakeShownAttribute (at f n) after a known goes h =
    let whole_sees = one f n after a.operands (sight a.seen a.opened) goes h.good in
    behind after (perform action.MakeShownAttribute a) known whole_sees.0 (attr_seen (λ id. attr.Shown a.name id (whole a)) 1 (taken a) a.opened h.sees whole_sees.1)
actions action.MakeLiteral (at f n) after a known goes h =
    so (at f (suc n)) after (perform action.MakeLiteral a) known goes (record { sees = h.sees; means = h.means; good = (lit_sees a.literal (sight a.seen a.opened), h.good) })
actions (action.MakeBinary op) (at f (suc (suc n))) after a known goes h =
    let s : Sight = sight a.seen a.opened in
    let others = good_rest (suc n) a.operands s h.good in
    so (at f (suc n)) after (perform (action.MakeBinary op) a) known goes
    (record { sees = h.sees; means = h.means; good = (binary_sees op _ _ s (good_top n (rest a.operands) s others) (good_top (suc n) a.operands s h.good), good_rest n (rest a.operands) s others) })
actions (action.MakeBinary op) (at f zero) after a known goes h = absurd cc
actions (action.MakeBinary op) (at f (suc zero)) after a known goes h = absurd cc
actions action.MakeIf (at f (suc (suc (suc n)))) after a known goes h =
    let s : Sight = sight a.seen a.opened in
    let one_less = good_rest (suc (suc n)) a.operands s h.good in
    let two_less = good_rest (suc n) (rest a.operands) s one_less in
    so (at f (suc n)) after (perform action.MakeIf a) known goes
    (record {
      sees = h.sees;
      means = h.means;
      good = (if_sees _ _ _ s (good_top n (rest (rest a.operands)) s two_less) (good_top (suc n) (rest a.operands) s one_less) (good_top (suc (suc n)) a.operands s h.good), good_rest n (rest (rest a.operands)) s two_less);
    })
actions action.MakeIf (at f zero) after a known goes h = absurd cc
actions action.MakeIf (at f (suc zero)) after a known goes h = absurd cc
actions action.MakeIf (at f (suc (suc zero))) after a known goes h = absurd cc
actions d (at f n) after a known goes h = so (at f n) after (perform d a) known goes (record { sees = h.sees; means = h.means; good = h.good })

-- ---- whole texts

is_walk : (bytes : List ℕ) → IsWalk term act through bytes Fall Holds
is_walk bytes = record {
  rules = λ r i body now after is goes. lead_at (productions r) i body now after (each_leads r now after goes) is;
  terminals = λ w now after a x next known goes has passed first p h. terminals bytes w now after a x next known goes passed p h;
  actions = λ d now after a known goes p h. actions d now after a known goes h;
}

-- at the end of a text what was read of the items sees what it names, also where something is still open
top_sees : (items : List Item) (seen : List Declared) (opened : List Open) → AllSee items seen opened → items_see items nothing_seen ≡ true
top_sees items seen [] h = h.sees
top_sees items seen (o ∷ outer) h = top_sees items o.outside outer h.1

end_sees : (p : Place) (a : State) (known : Option Lexed) → Holds p a known → items_see a.items nothing_seen ≡ true
end_sees (at f n) a known h = top_sees a.items a.seen a.opened h.sees

pub names_are_of_what_is_seen : (bytes : List ℕ) (component : Component) → IsComponent bytes component → items_see component.items nothing_seen ≡ true
names_are_of_what_is_seen bytes component is =
    let first : Holds (at nothing zero) start None = record { sees = record { sees = refl; behind = refl }; means = tt; good = tt } in
    let end = walked_to_the_end term act through bytes Fall (keeps_falling bytes) Holds (is_walk bytes) is.last is.read start_falls (at nothing zero) (at nothing zero) refl first in
    rw is.items (end_sees end.0 is.last end.1 end.2)
