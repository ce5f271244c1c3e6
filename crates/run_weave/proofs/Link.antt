-- An operation that makes a call does what the call does.
use Rattle.std.proofs.Common.{◌≡◌, ℕ, true, List, [], sym, refl, ap, ◌∙◌, subst, inl, inr, arith, Some, None, Result, Ok, Err}
use Rattle.values.specs.declared.code.Code.{Code}
use Rattle.values.specs.declared.code.Code.TheVariants.{Empty}
use Rattle.values.specs.declared.plan.Noted.{Noted}
use Rattle.values.specs.declared.plan.PlanNode.{PlanNode}
use Rattle.values.specs.declared.plan.Stop.{Stop}
use Rattle.values.specs.declared.plan.Stop.TheVariants as stop
use Rattle.store_fields.specs.declared.edit.Edit.{Edit}
use Rattle.script_items.specs.declared.operation.ScriptOp.{ScriptOp}
use Rattle.script_items.specs.declared.operation.ScriptOp.TheVariants as op
use Rattle.run_items.specs.declared.answer.Reply.{Reply}
use Rattle.run_items.specs.declared.answer.Reply.TheVariants as reply
use Rattle.run_meaning.specs.Opened.{Opened, Target, at_row, at_none, at_dead, row_in}
use Rattle.run_meaning.specs.Lane.{Done, set_row, code_in, get_row, target_of, named_owner}
use Rattle.run_meaning.specs.Phase.{Phase}
use Rattle.run_meaning.specs.Merge.{is_answer}
use Rattle.run_meaning.specs.Causes.{IsOwned}
use Rattle.run_history.specs.Going.{Start, start_of, Going, IsDead, IsOwnedBy, IsLiveRow, derived_of}
use Rattle.run_history.specs.Calls.{IsFull, Stops, RowStops, Call, set, get, pump, dispose, edit, SaysAt, MadeCall, Makes}
use Rattle.run_history.specs.History.{may_draw, Says, Owes, Does}
use Rattle.run_history.proofs.Cut.{none_some, some_same}
use Rattle.run_history.proofs.Steps.{nothing_goes}
use Rattle.run_weave.specs.Lanes.{IsQuietly, stopped, set_reply, get_reply, IsEditReply, Speaks, TargetsFit}
use Rattle.run_weave.proofs.Weave.{quietly}

-- ---- targets

abbrev is_row : Target → ℕ
is_row (at_row n) = 1
is_row at_none = 0
is_row (at_dead n) = 2

row_of_target : (t : Target) (n : ℕ) → row_in t ≡ Some n → t ≡ at_row n
row_of_target (at_row m) n e = ap (λ (x : ℕ). at_row x) (some_same m n e)
row_of_target at_none n e = absurd (none_some n e)
row_of_target (at_dead m) n e = absurd (none_some n e)

row_not_none : (n : ℕ) → at_row n ≡ at_none → ⊥
row_not_none n e = let one : ℕ = 1 in let q : one ≡ 0 = ap is_row e in absurd (omega arith)

owner_same : (s : Start) (row m n : ℕ) → IsOwnedBy s row m → IsOwnedBy s row n → m ≡ n
owner_same s row m n a b = let q : a.0 ≡ b.0 = some_same a.0 b.0 (sym a.1 ∙ b.1) in sym a.2 ∙ (ap (λ (x : PlanNode). x.owner) q ∙ b.2)

-- ---- what names a row

-- a set or get of a row: what it names, and whose it is
pub record Names (past : List Phase) (o : Opened) (x : ScriptOp) (row : ℕ) : Type 0 where
  pub there : target_of o x ≡ Some at_none → ⊥
  pub owner : ℕ
  pub owned : IsOwned o x owner
  pub of_row : IsOwnedBy (start_of past o) row owner

target_not_none : (o : Opened) (t : Target) (row : ℕ) → t ≡ at_row row → Some t ≡ Some at_none → ⊥
target_not_none o t row e q = row_not_none row (sym e ∙ some_same t at_none q)

set_names : (past : List Phase) (o : Opened) → TargetsFit o → (x : ScriptOp) (row : ℕ) → set_row o x ≡ Some row → Names past o x row
set_names past o fits (op.Set id key code) row e = let t = row_of_target (o.target id key) row e in record { there = target_not_none o (o.target id key) row t; owner = o.owner_of id; owned = refl; of_row = fits.owned past id key row t }
set_names past o fits (op.Get id key) row e = absurd (none_some row e)
set_names past o fits op.Pump row e = absurd (none_some row e)
set_names past o fits (op.Dispose owner) row e = absurd (none_some row e)
set_names past o fits (op.Change asked) row e = absurd (none_some row e)

get_names : (past : List Phase) (o : Opened) → TargetsFit o → (x : ScriptOp) (row : ℕ) → get_row o x ≡ Some row → Names past o x row
get_names past o fits (op.Set id key code) row e = absurd (none_some row e)
get_names past o fits (op.Get id key) row e = let t = row_of_target (o.target id key) row e in record { there = target_not_none o (o.target id key) row t; owner = o.owner_of id; owned = refl; of_row = fits.owned past id key row t }
get_names past o fits op.Pump row e = absurd (none_some row e)
get_names past o fits (op.Dispose owner) row e = absurd (none_some row e)
get_names past o fits (op.Change asked) row e = absurd (none_some row e)

-- ---- owed

-- to what names something live nothing is owed
owes_live : (past : List Phase) (o : Opened) (g : Going) (x : ScriptOp) (r : Reply) (owner : ℕ) → (target_of o x ≡ Some at_none → ⊥) → IsOwned o x owner → (IsDead (start_of past o) g.entries owner → ⊥) → Owes past o g x r
owes_live past o g x r owner there owned live = record {
  no_row = λ e. absurd (there e);
  disposed = λ n own dead. absurd (live (subst (λ (m : ℕ). IsDead (start_of past o) g.entries m) (some_same n owner (sym own ∙ owned)) dead));
}

owes_dead : (past : List Phase) (o : Opened) (g : Going) (x : ScriptOp) (owner : ℕ) → (target_of o x ≡ Some at_none → ⊥) → IsOwned o x owner → Owes past o g x (reply.Disposed owner)
owes_dead past o g x owner there owned = record {
  no_row = λ e. absurd (there e);
  disposed = λ n own dead. inl (ap (λ (m : ℕ). reply.Disposed m) (some_same owner n (sym owned ∙ own)));
}

-- ---- each call

module _ (past : List Phase) (o : Opened) (fits : TargetsFit o) (g : Going) (block : List Noted) (h : Going) (pass : ℕ) where
  abbrev start : Start
  start = start_of past o

  -- what is said of an operation, where its call says so
  pub record Linked (x : ScriptOp) (r : Reply) : Type 0 where
    pub says : Says past o g block h pass x r
    pub answers : is_answer x r ≡ true
    pub owes : Owes past o g x r

  to_reply : (x : ScriptOp) (r s : Reply) → r ≡ s → Linked x s → Linked x r
  to_reply x r s e l = subst (λ (y : Reply). Linked x y) (sym e) l

  is_set_op : (x : ScriptOp) (row : ℕ) → set_row o x ≡ Some row → (n : ℕ) → (is_answer x (reply.Set n) ≡ true) × (is_answer x (reply.Disposed n) ≡ true) × (is_answer x (reply.Full n) ≡ true) × (may_draw start x ≡ 1)
  is_set_op (op.Set id key code) row e n = (refl, refl, refl, refl)
  is_set_op (op.Get id key) row e n = absurd (none_some row e)
  is_set_op op.Pump row e n = absurd (none_some row e)
  is_set_op (op.Dispose owner) row e n = absurd (none_some row e)
  is_set_op (op.Change asked) row e n = absurd (none_some row e)

  is_get_op : (x : ScriptOp) (row : ℕ) → get_row o x ≡ Some row → (v : Code) (n : ℕ) → (is_answer x (reply.Got v n) ≡ true) × (is_answer x (reply.Disposed n) ≡ true) × (is_answer x (reply.Full n) ≡ true) × (may_draw start x ≡ derived_of start)
  is_get_op (op.Set id key code) row e v n = absurd (none_some row e)
  is_get_op (op.Get id key) row e v n = (refl, refl, refl, refl)
  is_get_op op.Pump row e v n = absurd (none_some row e)
  is_get_op (op.Dispose owner) row e v n = absurd (none_some row e)
  is_get_op (op.Change asked) row e v n = absurd (none_some row e)

  full_most : (most other n : ℕ) → other ≡ most → IsFull g block h most n → IsFull g block h other n
  full_most most other n e f = subst (λ (m : ℕ). IsFull g block h m n) (sym e) f

  -- a stop, of what is of this owner
  stop_linked : (x : ScriptOp) (most owner : ℕ) (why : Stop) → (target_of o x ≡ Some at_none → ⊥) → IsOwned o x owner → may_draw start x ≡ most → ((n : ℕ) → is_answer x (reply.Disposed n) ≡ true) → ((n : ℕ) → is_answer x (reply.Full n) ≡ true) → Stops start g block h most owner why → Linked x (stopped why)
  stop_linked x most owner (stop.Disposed n) there owned draws disposed full s = record {
    says = (s.2, owned ∙ ap (λ (m : ℕ). Some m) (sym s.0), subst (λ (m : ℕ). IsDead start g.entries m) (sym s.0) s.1);
    answers = disposed n;
    owes = subst (λ (m : ℕ). Owes past o g x (reply.Disposed m)) (sym s.0) (owes_dead past o g x owner there owned);
  }
  stop_linked x most owner (stop.Full n) there owned draws disposed full s = record { says = full_most most (may_draw start x) n draws s.1; answers = full n; owes = owes_live past o g x (reply.Full n) owner there owned s.0 }

  row_stop : (x : ScriptOp) (most row : ℕ) (why : Stop) → Names past o x row → may_draw start x ≡ most → ((n : ℕ) → is_answer x (reply.Disposed n) ≡ true) → ((n : ℕ) → is_answer x (reply.Full n) ≡ true) → RowStops start g block h most row why → Linked x (stopped why)
  row_stop x most row why names draws disposed full s = stop_linked x most names.owner why names.there names.owned draws disposed full (subst (λ (m : ℕ). Stops start g block h most m why) (owner_same start row s.0 names.owner s.1 names.of_row) s.2)

  live_row : (x : ScriptOp) (row : ℕ) (r : Reply) → Names past o x row → IsLiveRow start g.entries row → Owes past o g x r
  live_row x row r names live = owes_live past o g x r names.owner names.there names.owned (subst (λ (m : ℕ). IsDead start g.entries m → ⊥) (owner_same start row live.0 names.owner live.1 names.of_row) live.2)

  set_linked : (row : ℕ) (code : Code) (answer : Result ℕ Stop) (x : ScriptOp) → set_row o x ≡ Some row → code_in x ≡ Some code → SaysAt start g block h pass (set row code answer) → Linked x (set_reply answer)
  set_linked row code (Ok n) x e c s = record { says = (row, code, e, c, s.1); answers = (is_set_op x row e n).0; owes = live_row x row (reply.Set n) (set_names past o fits x row e) s.0 }
  set_linked row code (Err why) x e c s = row_stop x 1 row why (set_names past o fits x row e) (is_set_op x row e 0).3 (λ n. (is_set_op x row e n).1) (λ n. (is_set_op x row e n).2) s.0

  get_linked : (row : ℕ) (answer : Result (Code × ℕ) Stop) (x : ScriptOp) → get_row o x ≡ Some row → SaysAt start g block h pass (get row answer) → Linked x (get_reply answer)
  get_linked row (Ok a) x e s = record { says = (row, e, s); answers = (is_get_op x row e a.0 a.1).0; owes = live_row x row (reply.Got a.0 a.1) (get_names past o fits x row e) s.live }
  get_linked row (Err why) x e s = row_stop x (derived_of start) row why (get_names past o fits x row e) (is_get_op x row e Empty 0).3 (λ n. (is_get_op x row e Empty n).1) (λ n. (is_get_op x row e Empty n).2) s

  edit_linked : (owner : ℕ) (asked : Edit) (answer : Result ℕ Stop) (r : Reply) → owner ≡ o.owner_of asked.store → IsEditReply answer r → SaysAt start g block h pass (edit owner asked answer) → Linked (op.Change asked) r
  edit_linked owner asked (Ok n) r e q s = to_reply (op.Change asked) r (reply.Edited n q.0) q.1 (record {
    says = s.1;
    answers = refl;
    owes = owes_live past o g (op.Change asked) (reply.Edited n q.0) owner (λ z. none_some at_none z) (ap (λ (m : ℕ). Some m) (sym e)) s.0;
  })
  edit_linked owner asked (Err why) r e q s = to_reply (op.Change asked) r (stopped why) q (stop_linked (op.Change asked) 1 owner why (λ z. none_some at_none z) (ap (λ (m : ℕ). Some m) (sym e)) refl (λ n. refl) (λ n. refl) s.0)

  pub linked : (call : Call) (x : ScriptOp) (r : Reply) → Speaks o call x r → SaysAt start g block h pass call → Linked x r
  linked (set row code answer) x r q s = to_reply x r (set_reply answer) q.2 (set_linked row code answer x q.0 q.1 s)
  linked (get row answer) x r q s = to_reply x r (get_reply answer) q.1 (get_linked row answer x q.0 s)
  linked (pump y) x r q s = to_reply x r (reply.Pumped y) q.1 (subst (λ (z : ScriptOp). Linked z (reply.Pumped y)) (sym q.0) (record {
    says = s;
    answers = refl;
    owes = record { no_row = λ z. absurd (none_some at_none z); disposed = λ n own dead. absurd (none_some n own) };
  }))
  linked (dispose owner y) x r q s = to_reply x r (reply.Disposal y) q.1 (subst (λ (z : ScriptOp). Linked z (reply.Disposal y)) (sym q.0) (record {
    says = (owner, refl, s);
    answers = refl;
    owes = record { no_row = λ z. absurd (none_some at_none z); disposed = λ n own dead. absurd (none_some n own) };
  }))
  linked (edit owner asked answer) x r q s = subst (λ (z : ScriptOp). Linked z r) (sym q.0) (edit_linked owner asked answer r q.1 q.2 s)

-- ---- an operation that makes a call, and one that makes none

pub goes : (past : List Phase) (o : Opened) → TargetsFit o → (g : Going) (m : MadeCall) (h : Going) (d : Done) (t : Makes (start_of past o) g m h) → Speaks o m.call d.op d.reply → Does past o g (record { pass = m.pass; done = d; block = t.0 }) h
goes past o fits g m h d t q = let l = linked past o fits g t.0 h m.pass m.call d.op d.reply q t.1.1 in record { goes = t.1.0; says = l.says; answers = l.answers; owes = l.owes }

named_answers : (o : Opened) (x : ScriptOp) (n m : ℕ) → named_owner o x ≡ Some n → is_answer x (reply.Disposed m) ≡ true
named_answers o (op.Set id key code) n m e = refl
named_answers o (op.Get id key) n m e = refl
named_answers o op.Pump n m e = absurd (none_some n e)
named_answers o (op.Dispose owner) n m e = absurd (none_some n e)
named_answers o (op.Change asked) n m e = refl

target_answers : (o : Opened) (x : ScriptOp) (t : Target) → target_of o x ≡ Some t → is_answer x reply.NoRow ≡ true
target_answers o (op.Set id key code) t e = refl
target_answers o (op.Get id key) t e = refl
target_answers o op.Pump t e = absurd (none_some t e)
target_answers o (op.Dispose owner) t e = absurd (none_some t e)
target_answers o (op.Change asked) t e = absurd (none_some t e)

pub stays : (past : List Phase) (o : Opened) (g : Going) (p : ℕ) (d : Done) → IsQuietly o d.op d.reply → Does past o g (quietly p d) g
stays past o g p d q = by d.reply refl q
  where
    by : (r : Reply) → d.reply ≡ r → IsQuietly o d.op r → Does past o g (quietly p d) g
    by (reply.Set n) e q = absurd q
    by (reply.Got v n) e q = absurd q
    by (reply.Pumped y) e q = absurd q
    by (reply.Disposal y) e q = absurd q
    by (reply.Edited n v) e q = absurd q
    by reply.NoRow e q = record {
      goes = nothing_goes (start_of past o) g;
      says = subst (λ (r : Reply). Says past o g [] g p d.op r) (sym e) ((refl, refl), q);
      answers = subst (λ (r : Reply). is_answer d.op r ≡ true) (sym e) (target_answers o d.op at_none q);
      owes = subst (λ (r : Reply). Owes past o g d.op r) (sym e) (record { no_row = λ z. refl; disposed = λ n own dead. inr refl });
    }
    by (reply.Busy n) e q = absurd q
    by (reply.Again n) e q = absurd q
    by (reply.Disposed n) e q = record {
      goes = nothing_goes (start_of past o) g;
      says = subst (λ (r : Reply). Says past o g [] g p d.op r) (sym e) ((refl, refl), q.0, inl q.1);
      answers = subst (λ (r : Reply). is_answer d.op r ≡ true) (sym e) (named_answers o d.op n n q.0);
      owes = subst (λ (r : Reply). Owes past o g d.op r) (sym e) (owes_dead past o g d.op n q.2 q.0);
    }
    by (reply.Full n) e q = absurd q
