use Rattle.std.proofs.Common.{◌≡◌, Some, ap, ◌∙◌}
use Rattle.plan_meaning.specs.Layout.{row_of}
use Rattle.plan_meaning.proofs.Rows.{at_map, map_at, row_got}
use Rattle.plan_meaning.proofs.laws.rows_go_to_their_places.Goals as goal

pub returns-clause-there : goal.returns-clause-there
returns-clause-there c old new row later p apart at_old at_new = at_map (row_of new) old row p at_old ∙ ap Some (apart later p at_new)

pub returns-clause-back : goal.returns-clause-back
returns-clause-back c old new row later is =
    let one = map_at (row_of new) old row (Some later) is in
    (one.0, one.1, row_got new one.0 later one.2)

pub returns-clause-apart : goal.returns-clause-apart
returns-clause-apart c old new row other later apart is also =
    let one = map_at (row_of new) old row (Some later) is in
    let two = map_at (row_of new) old other (Some later) also in
    let here = row_got new one.0 later one.2 in
    let there = row_got new two.0 later two.2 in
    let same : one.0 ≡ two.0 = cc in
    let first = apart row one.0 one.1 in
    let second = apart other two.0 two.1 in
    let moved : row_of old one.0 ≡ row_of old two.0 = ap (row_of old) same in
    cc
