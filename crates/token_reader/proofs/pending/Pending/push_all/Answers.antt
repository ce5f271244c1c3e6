use Rattle.std.proofs.Common.{◌≡◌, ◌++◌, sym, ◌∙◌, ap}
use Rattle.token_reader.specs.Pending.{joined}
use Rattle.token_reader.specs.declared.pending.Pending.TheInside.{Inside}
use Rattle.token_reader.proofs.Parts.{front_behind, none_in_front}
use Rattle.token_reader.proofs.pending.Pending.push_all.Goals as goal
use Rattle.token_reader.proofs.pending.Pending.push_all.Goals.{then-not-is_empty+in_ok-push, else-not-is_empty}

pub returns : goal.returns
returns g c =
    let was = c.self.inside in
    let all = c.args.self.now in
    let symbols = c.args.symbols.now in
    let now = c.if-not-is_empty.self-inside in
    let behind : joined now.behind.items ≡ all =
    elim c.if-not-is_empty.branch [
      | then-not-is_empty+in_ok-push w ↦
          ap (λ (i : Inside g.row.T.Denot). joined i.behind.items) w.self-inside-is ∙ front_behind was.front was.behind.items w.push.new.self.items all w.in_ok-push.ensures.items c.self.view_is
      | else-not-is_empty w ↦
          ap (λ (i : Inside g.row.T.Denot). joined i.behind.items) w.self-inside-is ∙ none_in_front was.front.now was.behind.items all (sym c.is_empty.ensures ∙ w.if-not-is_empty.false) c.self.view_is
    ] in
    ap (λ l. symbols ++ l) behind
