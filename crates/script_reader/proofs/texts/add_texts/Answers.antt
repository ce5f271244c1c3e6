use Rattle.std.proofs.Common.{arith}
use Rattle.std.proofs.lemmas.Grind.{common_steps}
use Rattle.std.specs.String.{string_bytes}
use Rattle.script_reader.proofs.Tables.{next_comes_behind}
use Rattle.script_reader.proofs.texts.add_texts.Goals as goal

pub loop-text-preserved : goal.loop-text-preserved
loop-text-preserved c =
    let behind = next_comes_behind string_bytes c.args.component.now.texts c.args.texts.now c.loop-text.text-index c.text-item.result c.requires c.loop-text-test.true c.text-item.is in
    record {
      texts = grind (arith, common_steps, behind);
      items = grind (arith, common_steps);
    }
