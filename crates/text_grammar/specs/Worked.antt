-- The tokens of some texts.
use Rattle.std.specs.Prelude.{true, false, List, [], ◌∷◌}
use Rattle.text_lexer.specs.declared.token.Mark.TheVariants as mark
use Rattle.text_lexer.specs.declared.token.Reserved.TheVariants as word
use Rattle.text_grammar.specs.declared.kind.Kind.{Kind}
use Rattle.text_grammar.specs.declared.kind.Kind.TheVariants as kind
use Rattle.text_grammar.specs.declared.kind.Seen.{Seen}

-- a token behind a blank, and one that touches the token before it
abbrev pub apart : Kind → Seen
apart k = record { kind = k; touches = false }

abbrev pub behind : Kind → Seen
behind k = record { kind = k; touches = true }

-- component 1
abbrev pub head : List Seen
head = apart (kind.Reserved word.Component) ∷ apart kind.One ∷ apart kind.End ∷ []

-- component 1 <p>{a}</p>
abbrev pub shown_in_element : List Seen
shown_in_element =
    apart (kind.Reserved word.Component) ∷ apart kind.One ∷ apart (kind.Mark mark.Less) ∷ behind kind.Name ∷ behind (kind.Mark mark.Greater) ∷
    behind (kind.Mark mark.OpenBrace) ∷ behind kind.Name ∷ behind (kind.Mark mark.CloseBrace) ∷
    behind (kind.Mark mark.ClosingTag) ∷ behind kind.Name ∷ behind (kind.Mark mark.Greater) ∷ apart kind.End ∷ []

-- component 1 <my-2 data-row></my-2> <br/> <area>
abbrev pub dashed_and_void_tags : List Seen
dashed_and_void_tags =
    apart (kind.Reserved word.Component) ∷ apart kind.One ∷ apart (kind.Mark mark.Less) ∷ behind kind.Name ∷ behind (kind.Mark mark.Minus) ∷ behind kind.Number ∷
    apart kind.Name ∷ behind (kind.Mark mark.Minus) ∷ behind (kind.Reserved word.Row) ∷ behind (kind.Mark mark.Greater) ∷
    behind (kind.Mark mark.ClosingTag) ∷ behind kind.Name ∷ behind (kind.Mark mark.Minus) ∷ behind kind.Number ∷ behind (kind.Mark mark.Greater) ∷
    apart (kind.Mark mark.Less) ∷ behind kind.VoidName ∷ behind (kind.Mark mark.Slash) ∷ behind (kind.Mark mark.Greater) ∷
    apart (kind.Mark mark.Less) ∷ behind (kind.Reserved word.Area) ∷ behind (kind.Mark mark.Greater) ∷ apart kind.End ∷ []

-- component 1 memo m = if a == (1 + row.f) * -2 then "b" else empty
abbrev pub expression : List Seen
expression =
    apart (kind.Reserved word.Component) ∷ apart kind.One ∷ apart (kind.Reserved word.Memo) ∷ apart kind.Name ∷ apart (kind.Mark mark.Assign) ∷
    apart (kind.Reserved word.If) ∷ apart kind.Name ∷ apart (kind.Mark mark.EqualTo) ∷ apart (kind.Mark mark.OpenParen) ∷ behind kind.One ∷ apart (kind.Mark mark.Plus) ∷
    apart (kind.Reserved word.Row) ∷ behind (kind.Mark mark.Dot) ∷ behind kind.Name ∷ behind (kind.Mark mark.CloseParen) ∷ apart (kind.Mark mark.Star) ∷
    apart (kind.Mark mark.Minus) ∷ behind kind.Number ∷ apart (kind.Reserved word.Then) ∷ apart kind.Text ∷ apart (kind.Reserved word.Else) ∷ apart (kind.Reserved word.Empty) ∷ apart kind.End ∷ []

-- component 1 <p>
abbrev pub unclosed : List Seen
unclosed = apart (kind.Reserved word.Component) ∷ apart kind.One ∷ apart (kind.Mark mark.Less) ∷ behind kind.Name ∷ behind (kind.Mark mark.Greater) ∷ apart kind.End ∷ []

-- component 1 <my -2
abbrev pub dash_apart : List Seen
dash_apart = apart (kind.Reserved word.Component) ∷ apart kind.One ∷ apart (kind.Mark mark.Less) ∷ behind kind.Name ∷ apart (kind.Mark mark.Minus) ∷ []

-- component 2
abbrev pub other_version : List Seen
other_version = apart (kind.Reserved word.Component) ∷ apart kind.Number ∷ []

-- phase lane set s[1].f = 2
abbrev pub set_field : List Seen
set_field =
    apart (kind.Reserved word.Phase) ∷ apart (kind.Reserved word.Lane) ∷ apart (kind.Reserved word.Set) ∷ apart kind.Name ∷ behind (kind.Mark mark.OpenBracket) ∷ behind kind.One ∷
    behind (kind.Mark mark.CloseBracket) ∷ behind (kind.Mark mark.Dot) ∷ behind kind.Name ∷ apart (kind.Mark mark.Assign) ∷ apart kind.Number ∷ apart kind.End ∷ []

-- phase lane insert a.s "k" {f = 1} at 0 move a.s -1 to 2 dispose a
abbrev pub edits : List Seen
edits =
    apart (kind.Reserved word.Phase) ∷ apart (kind.Reserved word.Lane) ∷
    apart (kind.Reserved word.Insert) ∷ apart kind.Name ∷ behind (kind.Mark mark.Dot) ∷ behind kind.Name ∷ apart kind.Text ∷
    apart (kind.Mark mark.OpenBrace) ∷ behind kind.Name ∷ apart (kind.Mark mark.Assign) ∷ apart kind.One ∷ behind (kind.Mark mark.CloseBrace) ∷ apart (kind.Reserved word.At) ∷ apart kind.Number ∷
    apart (kind.Reserved word.Move) ∷ apart kind.Name ∷ behind (kind.Mark mark.Dot) ∷ behind kind.Name ∷ apart (kind.Mark mark.Minus) ∷ behind kind.One ∷ apart (kind.Reserved word.To) ∷ apart kind.Number ∷
    apart (kind.Reserved word.Dispose) ∷ apart kind.Name ∷ apart kind.End ∷ []

-- phase lane dispose a[
abbrev pub disposed_row : List Seen
disposed_row = apart (kind.Reserved word.Phase) ∷ apart (kind.Reserved word.Lane) ∷ apart (kind.Reserved word.Dispose) ∷ apart kind.Name ∷ behind (kind.Mark mark.OpenBracket) ∷ []
