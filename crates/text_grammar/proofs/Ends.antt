-- The ends of the texts stand last.
use Rattle.std.proofs.Common.{◌≡◌, ℕ, Bool, true, false, List, [], ◌∷◌, Ok, Err, slice_range, refl, subst}
use Rattle.std.proofs.lemmas.Bool.{false≢true}
use Rattle.std.specs.List.{list_all}
use Rattle.grammar.specs.declared.symbol.Symbol.TheVariants as s
use Rattle.grammar.specs.Descent.{LeadsDown, rule_goes_down, leads_down}
use Rattle.grammar.specs.Ends.{IsLast, stops, rule_stops}
use Rattle.grammar.proofs.Tests.{all_at}
use Rattle.text_lexer.specs.declared.token.TokenKind.{TokenKind}
use Rattle.text_lexer.specs.declared.token.TokenKind.TheVariants as token
use Rattle.text_lexer.specs.Lexing.{is_end}
use Rattle.text_lexer.specs.Tokens.{Lexed, is_last}
use Rattle.text_grammar.specs.declared.kind.Seen.{Seen}
use Rattle.text_grammar.specs.declared.component.Rule.TheVariants as rule
use Rattle.text_grammar.specs.declared.component.Terminal.TheVariants as terminal
use Rattle.text_grammar.specs.declared.script.Rule.TheVariants as script_rule
use Rattle.text_grammar.specs.declared.script.Terminal.TheVariants as script_terminal
use Rattle.text_grammar.specs.Kind.{kind_of, kind_of_token, end_seen, bad_seen}
use Rattle.text_grammar.specs.Closed.{is_closer}
use Rattle.text_grammar.specs.Component as component
use Rattle.text_grammar.specs.ComponentAhead as component_ahead
use Rattle.text_grammar.specs.Script as script
use Rattle.text_grammar.specs.ScriptAhead as script_ahead
use Rattle.text_grammar.proofs.ComponentRight as component_right
use Rattle.text_grammar.proofs.ScriptRight as script_right

-- ---- of component texts

component_passes : leads_down component.table component_ahead.lookahead component_ahead.level component_right.all_rules ≡ true
component_passes = refl

pub component_down : LeadsDown component.table component_ahead.lookahead component_ahead.level
component_down r =
    let at = component_right.rule_at r in
    all_at (rule_goes_down component.table component_ahead.lookahead component_ahead.level) component_right.all_rules at.0 r component_passes at.1

component_last : (k : Seen) → stops component.table is_closer k (s.Rule rule.Component ∷ []) ≡ true
    → list_all (rule_stops component.table is_closer k) component_right.all_rules ≡ true → IsLast component.table is_closer terminal.End k component.text
component_last k before inside = record {
  closes = record { inner = s.Rule rule.Component ∷ []; whole = refl };
  before = before;
  inside = λ r. let at = component_right.rule_at r in all_at (rule_stops component.table is_closer k) component_right.all_rules at.0 r inside at.1;
}

pub component_end : (touches : Bool) → IsLast component.table is_closer terminal.End (end_seen touches) component.text
component_end true = component_last (end_seen true) refl refl
component_end false = component_last (end_seen false) refl refl

pub component_bad : IsLast component.table is_closer terminal.End bad_seen component.text
component_bad = component_last bad_seen refl refl

-- ---- of script texts

script_passes : leads_down script.table script_ahead.lookahead script_ahead.level script_right.all_rules ≡ true
script_passes = refl

pub script_down : LeadsDown script.table script_ahead.lookahead script_ahead.level
script_down r =
    let at = script_right.rule_at r in
    all_at (rule_goes_down script.table script_ahead.lookahead script_ahead.level) script_right.all_rules at.0 r script_passes at.1

script_last : (k : Seen) → stops script.table (λ w. false) k (s.Rule script_rule.Script ∷ []) ≡ true
    → list_all (rule_stops script.table (λ w. false) k) script_right.all_rules ≡ true → IsLast script.table (λ w. false) script_terminal.End k script.text
script_last k before inside = record {
  closes = record { inner = s.Rule script_rule.Script ∷ []; whole = refl };
  before = before;
  inside = λ r. let at = script_right.rule_at r in all_at (rule_stops script.table (λ w. false) k) script_right.all_rules at.0 r inside at.1;
}

pub script_end : (touches : Bool) → IsLast script.table (λ w. false) script_terminal.End (end_seen touches) script.text
script_end true = script_last (end_seen true) refl refl
script_end false = script_last (end_seen false) refl refl

pub script_bad : IsLast script.table (λ w. false) script_terminal.End bad_seen script.text
script_bad = script_last bad_seen refl refl

-- ---- the last token of a token list

seen_end : (k : TokenKind) (bytes : List ℕ) (touches : Bool) → is_end k ≡ true → end_seen touches ≡ record { kind = kind_of_token k bytes; touches = touches }
seen_end token.Name bytes touches is = absurd (false≢true is)
seen_end (token.Reserved w) bytes touches is = absurd (false≢true is)
seen_end token.Number bytes touches is = absurd (false≢true is)
seen_end token.Text bytes touches is = absurd (false≢true is)
seen_end (token.Mark m) bytes touches is = absurd (false≢true is)
seen_end token.End bytes touches is = refl

pub component_last_token : (bytes : List ℕ) (x : Lexed) → is_last x ≡ true → IsLast component.table is_closer terminal.End (kind_of bytes x) component.text
component_last_token bytes (Ok x) is =
    subst (λ k. IsLast component.table is_closer terminal.End k component.text) (seen_end x.kind (slice_range bytes x.start x.end) x.touches is) (component_end x.touches)
component_last_token bytes (Err bad) is = component_bad

pub script_last_token : (bytes : List ℕ) (x : Lexed) → is_last x ≡ true → IsLast script.table (λ w. false) script_terminal.End (kind_of bytes x) script.text
script_last_token bytes (Ok x) is =
    subst (λ k. IsLast script.table (λ w. false) script_terminal.End k script.text) (seen_end x.kind (slice_range bytes x.start x.end) x.touches is) (script_end x.touches)
script_last_token bytes (Err bad) is = script_bad
