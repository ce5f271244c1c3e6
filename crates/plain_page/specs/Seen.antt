-- What a writer has, as the definitions say it.
use Rattle.std.specs.Prelude.{map}
use Rattle.plain_evaluation.specs.Held.{is_live, rows_held}
use Rattle.plain_evaluation.specs.Page.{View}
use Rattle.plain_values.specs.Seen.{values_seen}
use Rattle.plain_page.specs.declared.page.Writer.{Writer}

abbrev pub view_in : Writer → View
view_in writer = record {
  texts = writer.texts.now;
  value = values_seen writer.values.now;
  keys = λ each store. map (λ row. row.key) (rows_held writer.held.now.held store);
  live = is_live writer.held.now.held;
}
