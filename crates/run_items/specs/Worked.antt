-- A journal for the worked facts.
use Rattle.std.specs.Prelude.{pos, List, [], ◌∷◌}
use Rattle.values.specs.declared.code.Code.TheVariants.{Number}
use Rattle.values.specs.declared.plan.Fact.{Fact}
use Rattle.values.specs.declared.plan.Fact.TheVariants as fact
use Rattle.run_items.specs.Journal.{JournalPhase}

abbrev pub write_one : Fact
write_one = fact.Write 0 (Number (pos 1))

abbrev pub dispose_two : Fact
dispose_two = fact.Disposed 2

abbrev pub two_phases : List JournalPhase
two_phases =
    record { base = 7; entries = record { number = 1; fact = write_one } ∷ []; counts = record { meets = 0; remarks = 0 } ∷ [] }
    ∷ record { base = 8; entries = record { number = 1; fact = dispose_two } ∷ record { number = 2; fact = write_one } ∷ []; counts = record { meets = 3; remarks = 4 } ∷ record { meets = 5; remarks = 6 } ∷ [] }
    ∷ []
