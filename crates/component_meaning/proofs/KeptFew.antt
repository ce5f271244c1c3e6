-- Ids are few: no more of them are taken than a text has tokens, and each token takes a byte.
use Rattle.std.proofs.Common.{◌≡◌, ℕ, suc, ◌+◌, ◌-◌, ◌<◌, ◌≤◌, false, cond, List, [], ◌∷◌, length, drop, Ok, Err, refl, sym, ◌∙◌, ap, subst, arith, length-append}
use Rattle.std.proofs.lemmas.List.FromFn.{length-range_with_len}
use Rattle.std.proofs.lemmas.Bool.{false≢true}
use Rattle.grammar.specs.Ahead.{with_next}
use Rattle.grammar.proofs.Keeping.{kept}
use Rattle.text_lexer.specs.declared.token.TokenKind.{TokenKind}
use Rattle.text_lexer.specs.declared.token.TokenKind.TheVariants.{End}
use Rattle.text_lexer.specs.Cursor.{Cursor, start_of}
use Rattle.text_lexer.specs.Lexing.{is_end, after}
use Rattle.text_lexer.specs.Tokens.{Lexed, IsGiven, past, is_last, Leads, here, on, IsTokenList}
use Rattle.text_lexer.proofs.TokenLists.{text_past}
use Rattle.text_lexer.proofs.Tokens.{longest_some}
use Rattle.text_grammar.specs.Component.{table}
use Rattle.component_items.specs.declared.component.Component.{Component}
use Rattle.component_items.specs.Ids.{item_ids, ids_in}
use Rattle.component_meaning.specs.Component.{IsComponent}
use Rattle.component_meaning.specs.Meaning.{semantics}
use Rattle.component_meaning.specs.Size.{size}
use Rattle.component_meaning.specs.State.{State, start}
use Rattle.component_meaning.proofs.Bounded.{bounded}
use Rattle.component_meaning.proofs.KeptIds.{AreNumbered, frame_ids, keeps, start_kept}
use Rattle.component_meaning.proofs.KeptNumbers.{numbers_inside}

-- ---- tokens

not_end : (kind : TokenKind) → is_end kind ≡ false → kind ≡ End → ⊥
not_end kind goes e = false≢true (sym goes ∙ ap is_end e)

-- a token that is not the last takes a byte
record GoesOn (cursor : Cursor) (behind : Cursor) : Type 0 where
  further : cursor.at < behind.at
  within : behind.at ≤ length cursor.text

goes_on : (cursor : Cursor) (x : Lexed) → IsGiven cursor x → is_last x ≡ false → GoesOn cursor (past cursor x)
goes_on cursor (Err bad) given more = absurd (false≢true (sym more))
goes_on cursor (Ok token) given more =
    let moved : record cursor { at = token.end } ≡ after cursor token = sym (ap (λ v. cond v cursor (record cursor { at = token.end })) more) in
    let stands = given.stands in
    let some = longest_some (drop token.start cursor.text) token.kind (token.end - token.start) (stands.longest (not_end token.kind more)) in
    let ordered = given.skips.ordered in
    subst (λ behind. GoesOn cursor behind) moved (record { further = omega arith; within = stands.within })

led_far : {c at : Cursor} {xs : List Lexed} → Leads c xs at → c.at ≤ length c.text → c.at + length xs ≤ length c.text
led_far here within = omega arith
led_far (on {cursor = c} {x = x} given more go) within =
    let goes = goes_on c x given more in
    let further = goes.further in
    let size = ap length (text_past c x) in
    let most = goes.within in
    let rest = led_far go (omega arith) in
    omega arith

length_next : {A : Type 0} (xs : List A) → length (with_next xs) ≡ length xs
length_next [] = refl
length_next (x ∷ xs) = ap suc (length_next xs)

few_tokens : (bytes : List ℕ) (first_line : ℕ) (tokens : List Lexed) → IsTokenList (start_of bytes first_line) tokens → length tokens ≤ length bytes + 1
few_tokens bytes first_line tokens listed =
    let far = led_far listed.are.leads (omega arith) in
    let parts = ap length listed.parts ∙ length-append listed.before (listed.last ∷ []) in
    omega (arith, far, parts)

-- ---- ids

pub ids_are_few : (bytes : List ℕ) (component : Component) → IsComponent bytes component → length (ids_in component.items) ≤ length bytes + 1
ids_are_few bytes component is = rw is.items (few is.last numbered within)
  where
    numbered : AreNumbered is.last
    numbered = kept table (semantics bytes) AreNumbered (keeps bytes) is.read.means start_kept

    within : size is.last ≤ 1 + (length bytes + 1)
    within =
        let read = bounded bytes start is.last (with_next is.read.tokens) [] is.read.means in
        let pairs = length_next is.read.tokens in
        let tokens = few_tokens bytes 1 is.read.tokens is.read.listed in
        omega (arith, read, pairs, tokens)

    few : (a : State) → AreNumbered a → size a ≤ 1 + (length bytes + 1) → length (ids_in a.items) ≤ length bytes + 1
    few a h size_is =
        let all_ids = ap length h.ids.listed ∙ length-range_with_len 0 h.ids.count in
        let parts = length-append (ids_in a.items) (numbers_inside item_ids frame_ids a.opened) in
        omega (arith, h.ids.comes_next, h.owners.comes_next, all_ids, parts)
