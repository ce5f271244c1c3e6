use Rattle.std.proofs.Common.{sym, ap, ◌∙◌}
use Rattle.load_table.specs.Loads.{loads_among}
use Rattle.load_table.specs.Table.{after_by, pairs_by, loads_with}
use Rattle.load_table.proofs.Forms.{nothing_put, put_all, loads-Signal, loads-Memo, loads-Effect, loads-Resource, loads-Load, loads-Store, loads-Cleanup, loads-Area, loads-If, loads-Each, loads-Element, loads-Text, loads-Shown}
use Rattle.load_table.proofs.walk.+loads.Goals as goal

pub put_item-returns-in-Load : goal.put_item-returns-in-Load
put_item-returns-in-Load t c =
    let es = c.args.resources.now.entries in
    let own = c.in-Load in
    put_all c.put_load.result _ _ _ _ (loads-Load (pairs_by es) (after_by es) c.args.item.now own.id own.name own.resource own.key own.is) c.put_load.ensures

pub put_item-returns-in-Area : goal.put_item-returns-in-Area
put_item-returns-in-Area t c =
    let es = c.args.resources.now.entries in
    let own = c.in-Area in
    put_all c.put_loads.result _ _ _ _ (loads-Area (pairs_by es) (after_by es) c.args.item.now own.id own.name own.owner own.items own.is ∙ ap (λ items. loads_among (pairs_by es) (after_by es) items) (sym c.as_slice.ensures)) c.put_loads.ensures

pub put_item-returns-in-If : goal.put_item-returns-in-If
put_item-returns-in-If t c =
    let es = c.args.resources.now.entries in
    let own = c.in-If in
    put_all c.put_loads-in-If.result _ _ _ _ (loads-If (pairs_by es) (after_by es) c.args.item.now own.id own.cond own.items own.is ∙ ap (λ items. loads_among (pairs_by es) (after_by es) items) (sym c.as_slice-in-If.ensures)) c.put_loads-in-If.ensures

pub put_item-returns-in-Each : goal.put_item-returns-in-Each
put_item-returns-in-Each t c =
    let es = c.args.resources.now.entries in
    let own = c.in-Each in
    put_all c.put_loads-in-Each.result _ _ _ _ (loads-Each (pairs_by es) (after_by es) c.args.item.now own.id own.store own.items own.is ∙ ap (λ items. loads_among (pairs_by es) (after_by es) items) (sym c.as_slice-in-Each.ensures)) c.put_loads-in-Each.ensures

pub put_item-returns-in-Element : goal.put_item-returns-in-Element
put_item-returns-in-Element t c =
    let es = c.args.resources.now.entries in
    let own = c.in-Element in
    put_all c.put_loads-in-Element.result _ _ _ _ (loads-Element (pairs_by es) (after_by es) c.args.item.now own.tag own.closed own.attrs own.items own.is ∙ ap (λ items. loads_among (pairs_by es) (after_by es) items) (sym c.as_slice-in-Element.ensures)) c.put_loads-in-Element.ensures

pub put_item-returns-in-Signal : goal.put_item-returns-in-Signal
put_item-returns-in-Signal t c =
    let es = c.args.resources.now.entries in
    let own = c.in-Signal in
    nothing_put (loads_with es c.args.loads.now) _ (loads-Signal (pairs_by es) (after_by es) c.args.item.now own.id own.name own.start own.is)

pub put_item-returns-in-Memo : goal.put_item-returns-in-Memo
put_item-returns-in-Memo t c =
    let es = c.args.resources.now.entries in
    let own = c.in-Memo in
    nothing_put (loads_with es c.args.loads.now) _ (loads-Memo (pairs_by es) (after_by es) c.args.item.now own.id own.name own.expr own.is)

pub put_item-returns-in-Effect : goal.put_item-returns-in-Effect
put_item-returns-in-Effect t c =
    let es = c.args.resources.now.entries in
    let own = c.in-Effect in
    nothing_put (loads_with es c.args.loads.now) _ (loads-Effect (pairs_by es) (after_by es) c.args.item.now own.id own.name own.expr own.is)

pub put_item-returns-in-Resource : goal.put_item-returns-in-Resource
put_item-returns-in-Resource t c =
    let es = c.args.resources.now.entries in
    let own = c.in-Resource in
    nothing_put (loads_with es c.args.loads.now) _ (loads-Resource (pairs_by es) (after_by es) c.args.item.now own.id own.name own.after own.keys own.values own.is)

pub put_item-returns-in-Store : goal.put_item-returns-in-Store
put_item-returns-in-Store t c =
    let es = c.args.resources.now.entries in
    let own = c.in-Store in
    nothing_put (loads_with es c.args.loads.now) _ (loads-Store (pairs_by es) (after_by es) c.args.item.now own.id own.name own.max own.fields own.starts own.is)

pub put_item-returns-in-Cleanup : goal.put_item-returns-in-Cleanup
put_item-returns-in-Cleanup t c =
    let es = c.args.resources.now.entries in
    let own = c.in-Cleanup in
    nothing_put (loads_with es c.args.loads.now) _ (loads-Cleanup (pairs_by es) (after_by es) c.args.item.now own.text own.is)

pub put_item-returns-in-Text : goal.put_item-returns-in-Text
put_item-returns-in-Text t c =
    let es = c.args.resources.now.entries in
    let own = c.in-Text in
    nothing_put (loads_with es c.args.loads.now) _ (loads-Text (pairs_by es) (after_by es) c.args.item.now own.text own.is)

pub put_item-returns-in-Shown : goal.put_item-returns-in-Shown
put_item-returns-in-Shown t c =
    let es = c.args.resources.now.entries in
    let own = c.in-Shown in
    nothing_put (loads_with es c.args.loads.now) _ (loads-Shown (pairs_by es) (after_by es) c.args.item.now own.id own.expr own.is)
