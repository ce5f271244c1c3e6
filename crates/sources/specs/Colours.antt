-- Colours.
use Rattle.std.specs.Prelude.{Bool, true, false}
use Rattle.sources.specs.declared.colour.Colour.{Colour}
use Rattle.sources.specs.declared.colour.Colour.TheVariants.{Clean, Check, Dirty}

abbrev pub is_clean : Colour → Bool
is_clean Clean = true
is_clean Check = false
is_clean Dirty = false
