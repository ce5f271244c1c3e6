-- What is seen and what is open, as it is kept.
use Rattle.std.specs.Prelude.{◌≡◌, Option, None, []}
use Rattle.component_blocks.specs.declared.blocks.Blocks.TheInside.{Inside}
use Rattle.component_frames.specs.Nest.{Nest}
use Rattle.component_frames.specs.Blocks.{opened_in, KnowsAround, all_blocks}

abbrev pub nest : Inside → Nest
nest b = record { seen = b.seen; items = b.items; opened = opened_in b.seen (all_blocks b.innermost b.outer) }

pub record IsWhole (b : Inside) : Type 0 where
  pub innermost_first : b.innermost ≡ None → b.outer ≡ []
  pub around : KnowsAround b.seen (all_blocks b.innermost b.outer)
