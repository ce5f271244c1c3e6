use Rattle.std.proofs.Common.{rules}
use Rattle.still_readers.proofs.BuildingLemmas.{weight_left, weight_right, weight_test, weight_first, weight_second}
use Rattle.still_rows.proofs.LawfulLemmas.{lawful_lit, lawful_read, read_lawful, lawful_binary, left_lawful, right_lawful, lawful_if, test_lawful, first_lawful, second_lawful}
use Rattle.still_rows.proofs.lawful.+names_lawfully.Goals as goal

pub names_lawfully-requires : goal.names_lawfully-requires
names_lawfully-requires t c = let w = weight_left _ _ _ _ _ c.in-Binary.is c.get.ensures in (search (w, rules), tt)

pub names_lawfully-requires-in-Binary : goal.names_lawfully-requires-in-Binary
names_lawfully-requires-in-Binary t c = let w = weight_right _ _ _ _ _ c.in-Binary.is c.get-in-Binary.ensures in (search (w, rules), tt)

pub names_lawfully-requires-in-If : goal.names_lawfully-requires-in-If
names_lawfully-requires-in-If t c = let w = weight_test _ _ _ _ _ c.in-If.is c.get-in-If.ensures in (search (w, rules), tt)

pub names_lawfully-requires-in-If-2 : goal.names_lawfully-requires-in-If-2
names_lawfully-requires-in-If-2 t c = let w = weight_first _ _ _ _ _ c.in-If.is c.get-in-If-2.ensures in (search (w, rules), tt)

pub names_lawfully-requires-in-If-3 : goal.names_lawfully-requires-in-If-3
names_lawfully-requires-in-If-3 t c = let w = weight_second _ _ _ _ _ c.in-If.is c.get-in-If-3.ensures in (search (w, rules), tt)

pub returns-in-Lit-clause-lawful : goal.returns-in-Lit-clause-lawful
returns-in-Lit-clause-lawful t c = λ _. lawful_lit c.args.nodes.now c.args.at c.args.expr.now _ c.in-Lit.is

pub returns-in-Read-clause-lawful : goal.returns-in-Read-clause-lawful
returns-in-Read-clause-lawful t c = λ e. lawful_read c.args.nodes.now c.args.at c.args.expr.now c.in-Read.row c.in-Read.is (c.may_read.ensures.may e)

pub returns-in-Read-clause-unlawful : goal.returns-in-Read-clause-unlawful
returns-in-Read-clause-unlawful t c = λ e h. c.may_read.ensures.may_not e (read_lawful c.args.nodes.now c.args.at c.args.expr.now c.in-Read.row c.in-Read.is h)

pub returns-then-not-names_lawfully-clause-unlawful : goal.returns-then-not-names_lawfully-clause-unlawful
returns-then-not-names_lawfully-clause-unlawful t c = λ _ h. c.names_lawfully.ensures.unlawful c.if-not-names_lawfully.true (left_lawful c.args.nodes.now c.args.at c.args.expr.now c.get.result.now _ _ _ c.in-Binary.is c.get.ensures h)

pub returns-else-not-names_lawfully-clause-lawful : goal.returns-else-not-names_lawfully-clause-lawful
returns-else-not-names_lawfully-clause-lawful t c = λ e.
    lawful_binary c.args.nodes.now c.args.at c.args.expr.now c.get.result.now c.get-in-Binary.result.now _ _ _ c.in-Binary.is c.get.ensures c.get-in-Binary.ensures
    (c.names_lawfully.ensures.lawful c.if-not-names_lawfully.false) (c.names_lawfully-in-Binary.ensures.lawful e)

pub returns-else-not-names_lawfully-clause-unlawful : goal.returns-else-not-names_lawfully-clause-unlawful
returns-else-not-names_lawfully-clause-unlawful t c = λ e h. c.names_lawfully-in-Binary.ensures.unlawful e (right_lawful c.args.nodes.now c.args.at c.args.expr.now c.get-in-Binary.result.now _ _ _ c.in-Binary.is c.get-in-Binary.ensures h)

pub returns-then-not-names_lawfully-2-clause-unlawful : goal.returns-then-not-names_lawfully-2-clause-unlawful
returns-then-not-names_lawfully-2-clause-unlawful t c = λ _ h. c.names_lawfully-in-If.ensures.unlawful c.if-not-names_lawfully-2.true (test_lawful c.args.nodes.now c.args.at c.args.expr.now c.get-in-If.result.now _ _ _ c.in-If.is c.get-in-If.ensures h)

pub returns-then-not-names_lawfully-3-clause-unlawful : goal.returns-then-not-names_lawfully-3-clause-unlawful
returns-then-not-names_lawfully-3-clause-unlawful t c = λ _ h. c.names_lawfully-in-If-2.ensures.unlawful c.if-not-names_lawfully-3.true (first_lawful c.args.nodes.now c.args.at c.args.expr.now c.get-in-If.result.now c.get-in-If-2.result.now _ _ _ c.in-If.is c.get-in-If.ensures c.get-in-If-2.ensures h)

pub returns-else-not-names_lawfully-3-clause-lawful : goal.returns-else-not-names_lawfully-3-clause-lawful
returns-else-not-names_lawfully-3-clause-lawful t c = λ e.
    lawful_if c.args.nodes.now c.args.at c.args.expr.now c.get-in-If.result.now c.get-in-If-2.result.now c.get-in-If-3.result.now _ _ _ c.in-If.is c.get-in-If.ensures c.get-in-If-2.ensures c.get-in-If-3.ensures
    (c.names_lawfully-in-If.ensures.lawful c.if-not-names_lawfully-2.false) (c.names_lawfully-in-If-2.ensures.lawful c.if-not-names_lawfully-3.false) (c.names_lawfully-in-If-3.ensures.lawful e)

pub returns-else-not-names_lawfully-3-clause-unlawful : goal.returns-else-not-names_lawfully-3-clause-unlawful
returns-else-not-names_lawfully-3-clause-unlawful t c = λ e h. c.names_lawfully-in-If-3.ensures.unlawful e (second_lawful c.args.nodes.now c.args.at c.args.expr.now c.get-in-If-3.result.now _ _ _ c.in-If.is c.get-in-If-3.ensures h)
