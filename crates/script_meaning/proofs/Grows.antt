-- A script only adds texts.
use Rattle.std.proofs.Common.{◌≡◌, ℕ, Bool, true, false, if◌then◌else◌, List, [], ◌∷◌, ◌++◌, Ok, Err, Some, None, Option, is_some, refl, sym, ap, subst, ◌∙◌, append_assoc, append-nil}
use Rattle.grammar.specs.Keeping.{Keeps}
use Rattle.grammar.proofs.Keeping.{kept}
use Rattle.values.specs.Texts.{index_of, with_text}
use Rattle.text_lexer.specs.declared.token.Token.{Token}
use Rattle.text_lexer.specs.Tokens.{Lexed}
use Rattle.text_grammar.specs.Script.{table}
use Rattle.text_grammar.specs.declared.script.Action.{Action}
use Rattle.text_grammar.specs.declared.script.Action.TheVariants as action
use Rattle.text_grammar.specs.declared.script.Terminal.{Terminal}
use Rattle.text_grammar.specs.declared.script.Terminal.TheVariants as terminal
use Rattle.component_items.specs.declared.component.Component.{Component}
use Rattle.script_items.specs.declared.operation.ScriptOp.{ScriptOp}
use Rattle.component_meaning.specs.Names.{content_in}
use Rattle.script_meaning.specs.State.{State}
use Rattle.script_meaning.specs.Names.{Named}
use Rattle.script_meaning.specs.Checks.{Check, failed, found_as, field_of}
use Rattle.script_meaning.specs.Effects.{effect, with_found, with_row_field, with_given, perform}
use Rattle.script_meaning.specs.Meaning.{semantics, judged, accept_token}
use Rattle.script_meaning.specs.Script.{IsScript}

-- a table with more texts behind those of this one
abbrev pub Extends : List (List ℕ) → List (List ℕ) → Type 0
Extends old new = (more : List (List ℕ)) × (new ≡ old ++ more)

with_text_extends : (old texts : List (List ℕ)) (text : List ℕ) → Extends old texts → Extends old (with_text text texts)
with_text_extends old texts text h = at (is_some (index_of text texts))
  where
    at : (has : Bool) → Extends old (if has then texts else texts ++ text ∷ [])
    at true = h
    at false = (h.0 ++ text ∷ [], ap (λ l. l ++ text ∷ []) h.1 ∙ append_assoc old h.0 (text ∷ []))

found_texts : (o : Option Named) (a : State) → (with_found o a).texts ≡ a.texts
found_texts None a = refl
found_texts (Some found) a = refl

field_texts : (o : Option ℕ) (a : State) → (with_row_field o a).texts ≡ a.texts
field_texts None a = refl
field_texts (Some i) a = refl

given_texts : (o : Option ℕ) (a : State) → (with_given o a).texts ≡ a.texts
given_texts None a = refl
given_texts (Some i) a = refl

effect_extends : (old : List (List ℕ)) (bytes : List ℕ) (t : Terminal) (a : State) (x : Token) → Extends old a.texts → Extends old (effect bytes t a x).texts
effect_extends old bytes terminal.TextKey a x h = with_text_extends old a.texts (content_in bytes x) h
effect_extends old bytes terminal.TextLiteral a x h = with_text_extends old a.texts (content_in bytes x) h
effect_extends old bytes terminal.SetName a x h = subst (Extends old) (sym (found_texts (found_as bytes a x) a)) h
effect_extends old bytes terminal.GetName a x h = subst (Extends old) (sym (found_texts (found_as bytes a x) a)) h
effect_extends old bytes terminal.AreaName a x h = subst (Extends old) (sym (found_texts (found_as bytes a x) a)) h
effect_extends old bytes terminal.StoreName a x h = subst (Extends old) (sym (found_texts (found_as bytes a x) a)) h
effect_extends old bytes terminal.RowField a x h = subst (Extends old) (sym (field_texts (field_of bytes a x) a)) h
effect_extends old bytes terminal.InsertedField a x h = subst (Extends old) (sym (given_texts (field_of bytes a x) a)) h
effect_extends old bytes _ a x h = h

accept_extends : (old : List (List ℕ)) (bytes : List ℕ) (t : Terminal) (a b : State) (x next : Lexed) → accept_token bytes t a x next ≡ Ok b → Extends old a.texts → Extends old b.texts
accept_extends old bytes t a b (Err bad) next took h = absurd cc
accept_extends old bytes t a b (Ok x) next took h = at (failed bytes t a x next) took
  where
    at : (o : Option Check) → judged bytes t a x o ≡ Ok b → Extends old b.texts
    at None is = let same : effect bytes t a x ≡ b = cc in subst (λ s. Extends old s.texts) same (effect_extends old bytes t a x h)
    at (Some check) is = absurd cc

perform_extends : (old : List (List ℕ)) (d : Action) (a : State) → Extends old a.texts → Extends old (perform d a).texts
perform_extends old action.BeginPath a h = h
perform_extends old _ a h = h

keeps : (old : List (List ℕ)) (bytes : List ℕ) → Keeps table (semantics bytes) (λ a. Extends old a.texts)
keeps old bytes = record {
  terminal = λ w a b x stands took h. accept_extends old bytes w a b x.token x.next took h;
  action = perform_extends old;
}

pub texts_only_grow : (component : Component) (first_line : ℕ) (bytes : List ℕ) (script : List (List (List ScriptOp))) (texts : List (List ℕ)) → IsScript component first_line bytes script texts → Extends component.texts texts
texts_only_grow component first_line bytes script texts is =
    subst (Extends component.texts) (sym is.all_texts)
    (kept table (semantics bytes) (λ a. Extends component.texts a.texts) (keeps component.texts bytes) is.read.means ([], sym (append-nil component.texts)))
