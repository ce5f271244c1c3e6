-- The steps of the reader.
use Rattle.std.proofs.Common.{◌≡◌, ◌⊎◌, ℕ, ◌+◌, ◌<◌, ◌≤◌, Bool, true, false, not, ◌||◌, List, [], ◌∷◌, ◌++◌, length, Option, Some, None, Ok, Err, IfOk, IfErr, OnErr, inl, inr, refl, sym, ◌∙◌, ap, subst, arith}
use Rattle.std.specs.Str.{IsUtf8}
use Rattle.grammar.specs.declared.symbol.Symbol.{Symbol}
use Rattle.grammar.specs.declared.symbol.Symbol.TheVariants.{Terminal, Rule, Action}
use Rattle.grammar.specs.Ahead.{WithNext}
use Rattle.grammar.specs.Ends.{stops}
use Rattle.grammar.specs.Semantics.{Reads, Refuses}
use Rattle.grammar.specs.Stands.{Stands}
use Rattle.grammar.specs.Table.{production_at}
use Rattle.grammar.proofs.Theory.{or_cases, and_cases}
use Rattle.grammar.proofs.Tests.{all_at}
use Rattle.grammar.proofs.Standing.{stands_start, stands_terminal, stands_rule, stands_action, refuses_terminal, refuses_check, refuses_empty}
use Rattle.text_lexer.specs.declared.token.BadToken.{BadToken}
use Rattle.text_lexer.specs.Computed.{tokens_of}
use Rattle.text_lexer.specs.Cursor.{Cursor, start_of}
use Rattle.text_lexer.specs.Lexing.{IsNext, IsBad, after}
use Rattle.text_lexer.specs.Token.{IsTokenOf}
use Rattle.text_lexer.specs.Tokens.{Lexed, IsGiven, past, is_last, here, IsTokenList}
use Rattle.text_lexer.proofs.AllTokens.{all_computed}
use Rattle.text_lexer.proofs.TokenLists.{leads_on, text_past}
use Rattle.text_grammar.specs.declared.kind.Seen.{Seen}
use Rattle.text_grammar.specs.Kind.{kind_of}
use Rattle.component_items.specs.declared.refusal.Refusal.{Refusal}
use Rattle.component_items.specs.declared.refusal.Refusal.TheVariants.{Bad, NoMemory}
use Rattle.part_meaning.specs.Part.{IsReadTo, IsRefused, bad_token, unexpected}
use Rattle.token_reader.specs.Rules.{Rules, IsReadable, Accepts, language}
use Rattle.token_reader.specs.Reading.{paired, Closes, Settles, here as settled_here, rule, action, IsReading, left, on_top}
use Rattle.token_reader.specs.Refused.{IsRefusedOr}
use Rattle.token_reader.proofs.Tokens.{goes_on, led_text, led_within, led_far, length_paired, paired_on, IsAmong, last_listed, last_among, inner_among, last_pairs}

-- ---- what a call of the lexer says

pub given_of : (old : Cursor) (x : Lexed) → IfOk x (IsNext old) → IfErr x (IsBad old) → IsGiven old x
given_of old (Ok t) token bad = token
given_of old (Err b) token bad = bad

pub past_of : (old new : Cursor) (x : Lexed) → IfOk x (λ t. new ≡ after old t) → OnErr x (new ≡ old) → new ≡ past old x
past_of old new (Ok t) moved stays = moved
past_of old new (Err b) moved stays = stays

module _ {W R D S : Type 0} (rules : Rules W R D S) (ok : IsReadable rules) where
  abbrev Symbols : Type 0
  Symbols = List (Symbol W R D)

  abbrev Stopped : Seen → Symbols → Bool
  Stopped k s = stops rules.table rules.blocked k s

  -- ---- the end stands last

  closes_end : (k : Seen) (inner : Symbols) (end : W) → Stopped k inner ≡ true → Closes rules k (inner ++ Terminal end ∷ [])
  closes_end k [] end e = inl refl
  closes_end k (Terminal w ∷ inner) end e =
      let both = and_cases (not (rules.table.matches w k) || rules.blocked w) (Stopped k inner) e in
      inr (both.0, closes_end k inner end both.1)
  closes_end k (Rule r ∷ inner) end e = closes_end k inner end e
  closes_end k (Action d ∷ inner) end e = closes_end k inner end e

  closes_append : (k : Seen) (body rest : Symbols) → Stopped k body ≡ true → Closes rules k rest → Closes rules k (body ++ rest)
  closes_append k [] rest e closes = closes
  closes_append k (Terminal w ∷ body) rest e closes =
      let both = and_cases (not (rules.table.matches w k) || rules.blocked w) (Stopped k body) e in
      inr (both.0, closes_append k body rest both.1 closes)
  closes_append k (Rule r ∷ body) rest e closes = closes_append k body rest e closes
  closes_append k (Action d ∷ body) rest e closes = closes_append k body rest e closes

  closes_rest : (k : Seen) (w : W) (rest : Symbols) → Closes rules k (Terminal w ∷ rest) → Closes rules k rest
  closes_rest k w rest (inl none) = subst (λ l. Closes rules k l) (sym none) tt
  closes_rest k w rest (inr more) = more.1

  never : (b : Bool) → not b ≡ true → b ≡ true → ⊥
  never true e f = cc
  never false e f = cc

  module _ (bytes : List ℕ) (first_line : ℕ) (first : S) where
    abbrev Reading : Cursor → Lexed → Lexed → Symbols → S → Type 0
    Reading now token next stack state = IsReading rules bytes first_line first now token next stack state

    abbrev pair : Lexed → Lexed → WithNext Lexed
    pair token next = record { token = token; next = next }

    abbrev begin : Cursor
    begin = start_of bytes first_line

    -- ---- the first tokens

    closes_text : (x : Lexed) → is_last x ≡ true → Closes rules (kind_of bytes x) rules.text
    closes_text x last =
        let ends = ok.last bytes x last in
        subst (λ l. Closes rules (kind_of bytes x) l) (sym ends.closes.whole) (closes_end (kind_of bytes x) ends.closes.inner rules.end ends.before)

    pub at_start : (now : Cursor) (x y : Lexed) → IsGiven begin x → IsGiven (past begin x) y → now ≡ past (past begin x) y → Reading now x y rules.text first
    at_start now x y given more moved = record {
      before = [];
      at = begin;
      leads = here;
      given = given;
      next_given = more;
      moved = moved;
      stands = stands_start rules.table rules.lookahead (rules.semantics bytes) ok.right rules.text first (pair x y) ok.fits;
      closes = closes_text;
    }

    -- ---- steps that take no token

    at_action : (now : Cursor) (x y : Lexed) (d : D) (stack : Symbols) (a : S) → Reading now x y (Action d ∷ stack) a → Reading now x y stack ((rules.semantics bytes).perform d a)
    at_action now x y d stack a r = record {
      before = r.before;
      at = r.at;
      leads = r.leads;
      given = r.given;
      next_given = r.next_given;
      moved = r.moved;
      stands = stands_action rules.table rules.lookahead (rules.semantics bytes) ok.right rules.text first r.stands;
      closes = r.closes;
    }

    at_rule : (now : Cursor) (x y : Lexed) (q : R) (body stack : Symbols) (a : S) → Reading now x y (Rule q ∷ stack) a
        → production_at (rules.table.productions q) (rules.lookahead.choice q (kind_of bytes x)) ≡ Some body → Reading now x y (body ++ stack) a
    at_rule now x y q body stack a r chosen = record {
      before = r.before;
      at = r.at;
      leads = r.leads;
      given = r.given;
      next_given = r.next_given;
      moved = r.moved;
      stands = stands_rule rules.table rules.lookahead (rules.semantics bytes) ok.right rules.text first r.stands
          (subst (λ k. production_at (rules.table.productions q) (rules.lookahead.choice q k) ≡ Some body) (sym (ok.kinds bytes (pair x y))) chosen);
      closes = λ last is. closes_append (kind_of bytes last) body stack
          (all_at (λ s. Stopped (kind_of bytes last) s) (rules.table.productions q) (rules.lookahead.choice q (kind_of bytes x)) body ((ok.last bytes last is).inside q) chosen)
          (r.closes last is);
    }

    pub settled : {stack : Symbols} {a : S} (now : Cursor) (x y : Lexed) → Reading now x y stack a → {out : Symbols} {b : S} → Settles rules bytes (kind_of bytes x) stack a out b → Reading now x y out b
    settled now x y r settled_here = r
    settled now x y r (rule {r = q} {body = body} {rest = rest} {a = a} go chosen) = at_rule now x y q body rest a (settled now x y r go) chosen
    settled now x y r (action {d = d} {rest = rest} {a = a} go) = at_action now x y d rest a (settled now x y r go)

    -- ---- tokens

    pub text_of : (now : Cursor) (x y : Lexed) (stack : Symbols) (a : S) → Reading now x y stack a → now.text ≡ bytes
    text_of now x y stack a r = ap (λ (c : Cursor). c.text) r.moved ∙ (text_past (past r.at x) y ∙ (text_past r.at x ∙ led_text r.leads))

    stands_in : (c : Cursor) (x : Lexed) → c.text ≡ bytes → IsGiven c x → IfOk x (IsTokenOf bytes)
    stands_in c (Ok t) same given = subst (λ l. IsTokenOf l t) same given.stands
    stands_in c (Err b) same given = tt

    pub token_of : (now : Cursor) (x y : Lexed) (stack : Symbols) (a : S) → Reading now x y stack a → IfOk x (IsTokenOf now.text)
    token_of now x y stack a r = subst (λ l. IfOk x (IsTokenOf l)) (sym (text_of now x y stack a r)) (stands_in r.at x (led_text r.leads) r.given)

    pub next_of : (now : Cursor) (x y : Lexed) (stack : Symbols) (a : S) → Reading now x y stack a → IfOk y (IsTokenOf now.text)
    next_of now x y stack a r = subst (λ l. IfOk y (IsTokenOf l)) (sym (text_of now x y stack a r)) (stands_in (past r.at x) y (text_past r.at x ∙ led_text r.leads) r.next_given)

    pub room : (now : Cursor) (x y : Lexed) (stack : Symbols) (a : S) → Reading now x y stack a → rules.size a ≤ rules.size first + length bytes
    room now x y stack a r =
        let bound = ok.bounded bytes first a (paired r.before x) stack r.stands.reads in
        let long = length_paired r.before x in
        let far = led_far r.leads in
        let within = led_within r.leads (omega arith) in
        let size = ap length (led_text r.leads) in
        omega arith

    -- and so on the way to a terminal
    pub room_settled : (now : Cursor) (x y : Lexed) (stack : Symbols) (a : S) (seen : Seen) → Reading now x y stack a → seen ≡ kind_of now.text x
        → (out : Symbols) (b : S) → Settles rules now.text seen stack a out b → rules.size b ≤ rules.size first + length bytes
    room_settled now x y stack a seen r is out b go =
        let there = subst (λ t. Settles rules t (kind_of t x) stack a out b) (text_of now x y stack a r) (subst (λ k. Settles rules now.text k stack a out b) is go) in
        room now x y out b (settled now x y r there)

    -- what is on top of the stack
    pub found : (now : Cursor) (x y : Lexed) (stack out : Symbols) (a b : S) (seen : Seen) (top : Option W) (w : W) → Reading now x y stack a
        → seen ≡ kind_of now.text x → ((bs : List ℕ) → Settles rules bs seen stack a (on_top top out) b) → top ≡ Some w → Reading now x y (Terminal w ∷ out) b
    found now x y stack out a b seen top w r is go some =
        settled now x y r (subst (λ k. Settles rules bytes k stack a (Terminal w ∷ out) b) (is ∙ ap (λ l. kind_of l x) (text_of now x y stack a r))
        (subst (λ t. Settles rules bytes seen stack a (on_top t out) b) some (go bytes)))

    pub none_found : (now : Cursor) (x y : Lexed) (stack out : Symbols) (a b : S) (seen : Seen) (top : Option W) → Reading now x y stack a
        → seen ≡ kind_of now.text x → ((bs : List ℕ) → Settles rules bs seen stack a (on_top top out) b) → top ≡ None → Reading now x y [] b
    none_found now x y stack out a b seen top r is go none =
        settled now x y r (subst (λ k. Settles rules bytes k stack a [] b) (is ∙ ap (λ l. kind_of l x) (text_of now x y stack a r))
        (subst (λ t. Settles rules bytes seen stack a (on_top t out) b) none (go bytes)))

    -- what a test of the token found
    pub sees_at : (now : Cursor) (x y : Lexed) (stack : Symbols) (a : S) (seen : Seen) (w : W) (m b : Bool) → Reading now x y stack a
        → seen ≡ kind_of now.text x → m ≡ rules.table.matches w seen → m ≡ b → rules.table.matches w (kind_of bytes x) ≡ b
    sees_at now x y stack a seen w m b r is tests answers =
        ap (λ k. rules.table.matches w k) (sym (is ∙ ap (λ l. kind_of l x) (text_of now x y stack a r))) ∙ (sym tests ∙ answers)

    pub bad_sees : (now : Cursor) (x : Lexed) (b : BadToken) (w : W) → x ≡ Err b → rules.table.matches w (kind_of bytes x) ≡ false
    bad_sees now x b w is = subst (λ v. rules.table.matches w (kind_of bytes v) ≡ false) (sym is) (ok.no_token w)

    -- the token may stand for the terminal, as the semantics see it
    sees_it : (x y : Lexed) (w : W) (b : Bool) → rules.table.matches w (kind_of bytes x) ≡ b → rules.table.matches w ((rules.semantics bytes).kind (pair x y)) ≡ b
    sees_it x y w b sees = subst (λ k. rules.table.matches w k ≡ b) (sym (ok.kinds bytes (pair x y))) sees

    pub at_terminal : (now new : Cursor) (x y z : Lexed) (w : W) (stack : Symbols) (a b : S) → Reading now x y (Terminal w ∷ stack) a
        → rules.table.matches w (kind_of bytes x) ≡ true → (rules.semantics bytes).accept w a (pair x y) ≡ Ok b → is_last x ≡ false
        → IsGiven now z → new ≡ past now z → Reading new y z stack b
    at_terminal now new x y z w stack a b r sees took more given moved =
        let stood = stands_terminal rules.table rules.lookahead (rules.semantics bytes) ok.right rules.text first r.stands (sees_it x y w true sees) took (pair y z) in
        record {
          before = r.before ++ x ∷ [];
          at = past r.at x;
          leads = leads_on x r.leads r.given more;
          given = r.next_given;
          next_given = subst (λ c. IsGiven c z) r.moved given;
          moved = moved ∙ ap (λ c. past c z) r.moved;
          stands = subst (λ l. Stands rules.table rules.lookahead (rules.semantics bytes) rules.text first l (pair y z) stack b) (sym (paired_on r.before x y)) stood;
          closes = λ last is. closes_rest (kind_of bytes last) w stack (r.closes last is);
        }

    pub fewer_left : (now new : Cursor) (x y z : Lexed) (stack : Symbols) (a : S) → Reading now x y stack a → is_last x ≡ false
        → IsGiven now z → new ≡ past now z → left new y z < left now x y
    fewer_left now new x y z stack a r more given moved = by_next (is_last y) refl
      where
        by_last : is_last y ≡ false → (b : Bool) → is_last z ≡ b → left new y z < left now x y
        by_last next true is = rw (more, next, is) (omega arith)
        by_last next false is =
            let goes = goes_on now z given is in
            let at = ap (λ (c : Cursor). c.at) moved in
            let size = ap (λ (c : Cursor). length c.text) moved in
            let same = ap length goes.same_text in
            let further = goes.further in
            let within = goes.within in
            rw (more, next, is) (omega arith)

        by_next : (b : Bool) → is_last y ≡ b → left new y z < left now x y
        by_next true next = rw (more, next) (omega arith)
        by_next false next = by_last next (is_last z) refl

    -- ---- the last token

    rest_empty : (now : Cursor) (x y : Lexed) (w : W) (stack : Symbols) (a b : S) → Reading now x y (Terminal w ∷ stack) a
        → rules.table.matches w (kind_of bytes x) ≡ true → (rules.semantics bytes).accept w a (pair x y) ≡ Ok b → is_last x ≡ true → stack ≡ []
    rest_empty now x y w stack a b r sees took last = by_case (r.closes x last)
      where
        split : (not (rules.table.matches w (kind_of bytes x)) ≡ true) ⊎ (rules.blocked w ≡ true) → ⊥
        split (inl other) = never (rules.table.matches w (kind_of bytes x)) other sees
        split (inr shut) = ok.blocks bytes w a b (pair x y) shut took

        by_case : Closes rules (kind_of bytes x) (Terminal w ∷ stack) → stack ≡ []
        by_case (inl none) = none
        by_case (inr more) = absurd (split (or_cases (not (rules.table.matches w (kind_of bytes x))) (rules.blocked w) more.0))

    pub at_end : IsUtf8 bytes → (now : Cursor) (x y : Lexed) (w : W) (stack : Symbols) (a b : S) → Reading now x y (Terminal w ∷ stack) a
        → rules.table.matches w (kind_of bytes x) ≡ true → (rules.semantics bytes).accept w a (pair x y) ≡ Ok b → is_last x ≡ true
        → IsReadTo (language rules first first_line) bytes b
    at_end utf8 now x y w stack a b r sees took last =
        let stood = stands_terminal rules.table rules.lookahead (rules.semantics bytes) ok.right rules.text first r.stands (sees_it x y w true sees) took (pair y y) in
        let none = rest_empty now x y w stack a b r sees took last in
        let reads = subst (λ l. Reads rules.table (rules.semantics bytes) rules.text first (paired r.before x ++ pair x y ∷ []) l b) none stood.reads in
        record {
          utf8 = utf8;
          tokens = r.before ++ x ∷ [];
          listed = last_listed begin r.at r.before x r.leads r.given last;
          means = subst (λ l. Reads rules.table (rules.semantics bytes) rules.text first l [] b) (sym (last_pairs r.at r.before x y r.given r.next_given last)) reads;
        }

    -- ---- refusals

    refused : IsUtf8 bytes → (now : Cursor) (x y : Lexed) (stack : Symbols) (a : S) (why : Refusal) → (r : Reading now x y stack a)
        → Refuses rules.table (rules.semantics bytes) rules.text first (paired r.before x) (pair x y) why → IsRefused (language rules first first_line) bytes why
    refused utf8 now x y stack a why r bad = by_last (is_last x) refl
      where
        by_list : (tokens : List Lexed) → IsTokenList begin tokens → IsAmong tokens r.before x y → IsRefused (language rules first first_line) bytes why
        by_list tokens listed among = bad_token utf8 tokens listed (record { before = paired r.before x; bad = pair x y; after = among.after; whole = among.pairs; refuses = bad })

        by_last : (b : Bool) → is_last x ≡ b → IsRefused (language rules first first_line) bytes why
        by_last true last = by_list (r.before ++ x ∷ []) (last_listed begin r.at r.before x r.leads r.given last)
            (last_among begin r.at r.before (r.before ++ x ∷ []) x y refl r.leads r.given r.next_given last)
        by_last false more = by_list (tokens_of bytes first_line) (all_computed bytes first_line)
            (inner_among begin r.at r.before (tokens_of bytes first_line) x y (all_computed bytes first_line) r.leads r.given r.next_given more)

    is_refused_or : (x : Lexed) → IsRefused (language rules first first_line) bytes (unexpected x) → IsRefusedOr (language rules first first_line) bytes (unexpected x)
    is_refused_or (Ok t) bad = bad
    is_refused_or (Err b) bad = bad

    not_allowed : IsUtf8 bytes → (now : Cursor) (x y : Lexed) (stack : Symbols) (a : S) → (r : Reading now x y stack a)
        → Refuses rules.table (rules.semantics bytes) rules.text first (paired r.before x) (pair x y) ((rules.semantics bytes).unexpected (pair x y))
        → IsRefusedOr (language rules first first_line) bytes (unexpected x)
    not_allowed utf8 now x y stack a r bad =
        is_refused_or x (refused utf8 now x y stack a (unexpected x) r
        (subst (λ e. Refuses rules.table (rules.semantics bytes) rules.text first (paired r.before x) (pair x y) e) (ok.not_allowed bytes (pair x y)) bad))

    pub bad_terminal : IsUtf8 bytes → (now : Cursor) (x y : Lexed) (w : W) (stack : Symbols) (a : S) → Reading now x y (Terminal w ∷ stack) a
        → rules.table.matches w (kind_of bytes x) ≡ false → IsRefusedOr (language rules first first_line) bytes (unexpected x)
    bad_terminal utf8 now x y w stack a r lacks = not_allowed utf8 now x y (Terminal w ∷ stack) a r
        (refuses_terminal rules.table rules.lookahead (rules.semantics bytes) ok.right rules.text first r.stands (sees_it x y w false lacks))

    pub bad_end : IsUtf8 bytes → (now : Cursor) (x y : Lexed) (a : S) → Reading now x y [] a → IsRefusedOr (language rules first first_line) bytes (unexpected x)
    bad_end utf8 now x y a r = not_allowed utf8 now x y [] a r
        (refuses_empty rules.table rules.lookahead (rules.semantics bytes) ok.right rules.text first r.stands)

    pub bad_check : IsUtf8 bytes → (now : Cursor) (x y : Lexed) (w : W) (stack : Symbols) (a b : S) (e : Refusal) → Reading now x y (Terminal w ∷ stack) a
        → rules.table.matches w (kind_of bytes x) ≡ true → Accepts ((rules.semantics bytes).accept w a (pair x y)) (Err e) b
        → IsRefusedOr (language rules first first_line) bytes e
    bad_check utf8 now x y w stack a b (Bad v p) r sees failed = refused utf8 now x y (Terminal w ∷ stack) a (Bad v p) r
        (refuses_check rules.table rules.lookahead (rules.semantics bytes) ok.right rules.text first r.stands (sees_it x y w true sees) failed)
    bad_check utf8 now x y w stack a b NoMemory r sees failed = tt
