use Rattle.std.proofs.Common.{refl}
use Rattle.std.proofs.lemmas.List.{take_rest}
use Rattle.text_lexer.proofs.Tokens.{token_stands, place_past_token}
use Rattle.text_lexer.proofs.lexer.Lexer.next.Goals as goal

pub invariant_of-self : goal.invariant_of-self
invariant_of-self c =
    let found = rw c.as_bytes-bytes.ensures.value at (rw take_rest at c.in-Some.ensures.found) in
    let place = rw (← c.self.view_is) at c.skip-start.ensures.place in
    (c.self.invariant.0, place_past_token c.self.inside.first_line c.self.inside.text.now c.skip-start.result.offset c.skip-start.result.line c.skip-start.result.column c.in-Some.length c.in-Some.kind place found)

pub returns-clause-token : goal.returns-clause-token
returns-clause-token c =
    let found = rw c.as_bytes-bytes.ensures.value at (rw take_rest at c.in-Some.ensures.found) in
    let place = rw (← c.self.view_is) at c.skip-start.ensures.place in
    rw (c.token-2.ensures, ← c.self.view_is) (record {
      skips = rw (← c.self.view_is) at c.skip-start.ensures.skips;
      stands = token_stands c.self.inside.text.now _ c.in-Some.length place.within refl found;
      line = place.line;
      column = place.column;
      touches = c.touches-touches.ensures;
    })

pub returns-clause-of_text : goal.returns-clause-of_text
returns-clause-of_text c =
    let found = rw c.as_bytes-bytes.ensures.value at (rw take_rest at c.in-Some.ensures.found) in
    let place = rw (← c.self.view_is) at c.skip-start.ensures.place in
    rw (c.token-2.ensures, ← c.self.view_is) (token_stands c.self.inside.text.now _ c.in-Some.length place.within refl found)
