-- Which tokens may stand for a terminal.
use Rattle.std.specs.Prelude.{ℕ, ◌==◌, ◌&&◌, ◌||◌, not, Bool, true, false}
use Rattle.text_lexer.specs.declared.token.Mark.{Mark}
use Rattle.text_lexer.specs.declared.token.Mark.TheVariants as mark
use Rattle.text_lexer.specs.declared.token.Reserved.{Reserved}
use Rattle.text_lexer.specs.declared.token.Reserved.TheVariants as word
use Rattle.text_grammar.specs.declared.kind.Kind.{Kind}
use Rattle.text_grammar.specs.declared.kind.Kind.TheVariants as kind
use Rattle.text_grammar.specs.declared.kind.Seen.{Seen}
use Rattle.text_grammar.specs.declared.kind.Class.{Class}
use Rattle.text_grammar.specs.declared.kind.Class.TheVariants as class

-- ---- each kind has a number of its own: the reserved words come first, and then the names and numbers

abbrev pub number_of_word : Reserved → ℕ
number_of_word word.Component = 0
number_of_word word.Signal = 1
number_of_word word.Memo = 2
number_of_word word.Effect = 3
number_of_word word.Resource = 4
number_of_word word.After = 5
number_of_word word.Load = 6
number_of_word word.Store = 7
number_of_word word.Max = 8
number_of_word word.Cleanup = 9
number_of_word word.Area = 10
number_of_word word.If = 11
number_of_word word.Then = 12
number_of_word word.Else = 13
number_of_word word.Each = 14
number_of_word word.Row = 15
number_of_word word.Empty = 16
number_of_word word.Lt = 17
number_of_word word.Phase = 18
number_of_word word.Lane = 19
number_of_word word.Set = 20
number_of_word word.Get = 21
number_of_word word.Pump = 22
number_of_word word.Dispose = 23
number_of_word word.Insert = 24
number_of_word word.At = 25
number_of_word word.Remove = 26
number_of_word word.Move = 27
number_of_word word.To = 28

abbrev pub number_of_mark : Mark → ℕ
number_of_mark mark.ClosingTag = 36
number_of_mark mark.EqualTo = 37
number_of_mark mark.Arrow = 38
number_of_mark mark.Assign = 39
number_of_mark mark.Less = 40
number_of_mark mark.Greater = 41
number_of_mark mark.Slash = 42
number_of_mark mark.OpenBrace = 43
number_of_mark mark.CloseBrace = 44
number_of_mark mark.OpenParen = 45
number_of_mark mark.CloseParen = 46
number_of_mark mark.OpenBracket = 47
number_of_mark mark.CloseBracket = 48
number_of_mark mark.Dot = 49
number_of_mark mark.Plus = 50
number_of_mark mark.Minus = 51
number_of_mark mark.Star = 52
number_of_mark mark.Percent = 53

abbrev pub number_of : Kind → ℕ
number_of (kind.Reserved w) = number_of_word w
number_of kind.Name = 29
number_of kind.VoidName = 30
number_of kind.One = 31
number_of kind.Number = 32
number_of kind.Text = 33
number_of kind.Bad = 34
number_of kind.End = 35
number_of (kind.Mark m) = number_of_mark m

abbrev pub is_same : Kind → Kind → Bool
is_same a b = number_of a == number_of b

-- ---- classes

abbrev pub is_reserved : Kind → Bool
is_reserved (kind.Reserved w) = true
is_reserved _ = false

abbrev pub is_name : Kind → Bool
is_name kind.Name = true
is_name kind.VoidName = true
is_name _ = false

abbrev pub is_number : Kind → Bool
is_number kind.One = true
is_number kind.Number = true
is_number _ = false

-- a void element's tag
abbrev pub is_void : Kind → Bool
is_void kind.VoidName = true
is_void (kind.Reserved word.Area) = true
is_void _ = false

-- in a tag and in an attribute's name the reserved words are plain names
abbrev pub is_tag : Kind → Bool
is_tag k = is_name k || is_reserved k

abbrev pub is_closer : Kind → Bool
is_closer kind.End = true
is_closer (kind.Mark mark.CloseBrace) = true
is_closer _ = false

-- the token is one of the class
abbrev pub is_in : Class → Seen → Bool
is_in (class.Only k) x = is_same k x.kind
is_in class.AnyName x = is_name x.kind
is_in class.AnyNumber x = is_number x.kind
is_in class.PlainTag x = is_tag x.kind && not (is_void x.kind)
is_in class.VoidTag x = is_void x.kind
is_in class.AnyTag x = is_tag x.kind
is_in class.Dash x = x.touches && is_same (kind.Mark mark.Minus) x.kind
is_in class.Part x = x.touches && (is_tag x.kind || is_number x.kind)
is_in class.Closer x = is_closer x.kind

-- a token of the class
abbrev pub sample_of : Class → Seen
sample_of (class.Only k) = record { kind = k; touches = false }
sample_of class.AnyName = record { kind = kind.Name; touches = false }
sample_of class.AnyNumber = record { kind = kind.Number; touches = false }
sample_of class.PlainTag = record { kind = kind.Name; touches = false }
sample_of class.VoidTag = record { kind = kind.VoidName; touches = false }
sample_of class.AnyTag = record { kind = kind.Name; touches = false }
sample_of class.Dash = record { kind = kind.Mark mark.Minus; touches = true }
sample_of class.Part = record { kind = kind.Name; touches = true }
sample_of class.Closer = record { kind = kind.End; touches = false }

-- the classes of one reserved word, and of one mark
abbrev pub only_word : Reserved → Class
only_word w = class.Only (kind.Reserved w)

abbrev pub only_mark : Mark → Class
only_mark m = class.Only (kind.Mark m)
