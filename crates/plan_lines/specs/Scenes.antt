-- The code's scenes, as what is written out has them.
use Rattle.std.specs.Option.{option_map}
use Rattle.plain_evaluation.specs.Written as written
use Rattle.plan_lines.specs.declared.scene.RowAround.{RowAround}
use Rattle.plan_lines.specs.declared.scene.Scene.{Scene}

abbrev pub row_in : RowAround → written.RowAround
row_in row = record { store = row.store; key = row.key }

abbrev pub scene_in : Scene → written.Scene
scene_in scene = record { owner = scene.owner; row = option_map row_in scene.row }
