-- The status of each outcome, and the line that it writes.
use Rattle.std.specs.Prelude.{ℕ, Bool, true, false, codes, List, ◌++◌, Option, Some, None}
use Rattle.std.specs.Fmt.{decimal}
use Rattle.component_items.specs.declared.refusal.Place.{Place}
use Rattle.page_program.specs.declared.finish.Outcome.{Outcome}
use Rattle.page_program.specs.declared.finish.Outcome.TheVariants.{Page, BadWords, BadText, Waiting, Unbuilt, ReadFault, WriteFault, NoMemory, TooLong}

abbrev pub status_of : Outcome → ℕ
status_of Page = 0
status_of BadWords = 2
status_of (BadText kind place) = 3
status_of (Waiting loads) = 4
status_of Unbuilt = 20
status_of ReadFault = 5
status_of WriteFault = 6
status_of NoMemory = 7
status_of TooLong = 8

abbrev pub bad_text_line : ℕ → Place → List ℕ
bad_text_line kind place = codes "bad text " ++ (decimal kind ++ (codes " at " ++ (decimal place.line ++ (codes ":" ++ (decimal place.column ++ codes "\n")))))

-- The line of an outcome that writes a line of its own and nothing else. A page and pending loads have the text of
-- their run, and where a write failed none is written.
abbrev pub own_line : Outcome → Option (List ℕ)
own_line Page = None
own_line BadWords = Some (codes "usage: page [-a] [--rounds N] | page big N\n")
own_line (BadText kind place) = Some (bad_text_line kind place)
own_line (Waiting loads) = None
own_line Unbuilt = Some (codes "not built\n")
own_line ReadFault = Some (codes "read fault\n")
own_line WriteFault = None
own_line NoMemory = Some (codes "no memory\n")
own_line TooLong = Some (codes "too long\n")

-- the outcome is decided before anything is run
abbrev pub is_before_run : Outcome → Bool
is_before_run Page = false
is_before_run BadWords = true
is_before_run (BadText kind place) = true
is_before_run (Waiting loads) = false
is_before_run Unbuilt = true
is_before_run ReadFault = true
is_before_run WriteFault = false
is_before_run NoMemory = false
is_before_run TooLong = true
