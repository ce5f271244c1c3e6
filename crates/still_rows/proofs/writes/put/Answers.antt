use Rattle.std.proofs.Common.{◌∙◌, refl, ap}
use Rattle.std.proofs.lemmas.Option.{get_or_from_slice_get}
use Rattle.values.specs.Reserved.{room_of}
use Rattle.sources.specs.declared.opening.Opened.{Opened}
use Rattle.still_rows.proofs.writes.put.Goals as goal

pub returns : goal.returns
returns c = λ row at.
    record {
      body = c.replace.new.self;
      after = record { reads_are = c.replace.ensures.reads; cause_is = c.replace.ensures.cause; room = c.replace.ensures.in_all ∙ ap (λ (q : Opened). room_of q.body.reads) (get_or_from_slice_get c.args.rows.now c.args.node row c.index-rows-node.result at) };
      is = refl;
    }
