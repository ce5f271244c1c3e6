use Rattle.std.proofs.Common.{◌≡◌, ◌<◌, ◌++◌, ◌∷◌, [], None, map, length, arith}
use Rattle.std.proofs.lemmas.List.{length-map}
use Rattle.std.specs.String.{string_bytes}
use Rattle.values.specs.Texts.{index_of}
use Rattle.values.proofs.TextsLemmas.{insert_key-added, index_of-added, IsTable-added}
use Rattle.values.proofs.texts.Texts.add.Goals as goal

pub invariant_of-self-2 : goal.invariant_of-self-2
invariant_of-self-2 c =
    let held = map string_bytes c.self.inside.texts.keys in
    let new : index_of c.args.text.now held ≡ None = grind arith in
    let small : length held < 65536 = grind (arith, length-map, c.self.invariant.bounded) in
    let added = insert_key-added c.self.inside.texts.keys c.in_ok-text.text c.args.text.now in
    let after : map string_bytes c.insert.new.self.keys ≡ held ++ c.args.text.now ∷ [] = grind (arith, added) in
    rw after (IsTable-added held c.args.text.now c.self.invariant new small c.utf8.text)

pub returns-clause-table : goal.returns-clause-table
returns-clause-table c = let added = insert_key-added c.self.inside.texts.keys c.in_ok-text.text c.args.text.now in grind (arith, added)

pub returns-clause-index : goal.returns-clause-index
returns-clause-index c =
    let added = insert_key-added c.self.inside.texts.keys c.in_ok-text.text c.args.text.now in
    let found = index_of-added c.args.text.now c.args.self.now in
    grind (arith, added, found, length-map)
