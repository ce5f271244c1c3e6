use Rattle.std.proofs.Common.{sym, subst}
use Rattle.std.specs.Str.{IsValidUpTo}
use Rattle.token_reader.specs.Rules.{language}
use Rattle.token_reader.proofs.Utf8.{refused_at}
use Rattle.token_reader.proofs.bytes.read_bytes.Goals as goal

pub returns-in-Err-clause-bad : goal.returns-in-Err-clause-bad
returns-in-Err-clause-bad g c =
    let bytes = c.args.bytes.now in
    let valid = subst (λ n. IsValidUpTo bytes n) (sym c.valid_up_to.ensures) c.in-Err.ensures.cases.1 in
    refused_at (language g.S.TextState.rules c.args.first c.args.first_line) bytes c.valid_up_to.result c.place_at-place.result valid
    c.place_at-place.ensures.line c.place_at-place.ensures.column
