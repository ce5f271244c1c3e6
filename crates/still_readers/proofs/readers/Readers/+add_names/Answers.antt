use Rattle.std.proofs.Common.{inl, inr, rules, arith, sym, subst}
use Rattle.values.specs.declared.expr.Expr.{Expr}
use Rattle.still_readers.specs.Building.{NamedIn, IsOne}
use Rattle.still_readers.proofs.Lists.{on_ok, both_ok}
use Rattle.still_readers.proofs.BuildingLemmas.{Either, grown_none, grown_as, grown_more, all_as, all_later, all_both, named_lit, named_read, read_named, names_binary, left_named, right_named, names_if, branches_named, second_named, weight_left, weight_right, weight_test, weight_first, weight_second}
use Rattle.still_readers.proofs.readers.Readers.+add_names.Goals as goal

pub add_names-requires : goal.add_names-requires
add_names-requires t c = let w = weight_left _ _ _ _ _ c.in-Binary.is c.get.ensures in (search (w, rules), c.requires)

pub add_names-requires-in-Binary : goal.add_names-requires-in-Binary
add_names-requires-in-Binary t c = let w = weight_right _ _ _ _ _ c.in-Binary.is c.get-in-Binary.ensures in (search (w, rules), (let a = c.in_ok-add_names-in-Binary.ensures.grown.longer in let b = c.requires in omega arith))

pub add_names-requires-in-If : goal.add_names-requires-in-If
add_names-requires-in-If t c = let w = weight_test _ _ _ _ _ c.in-If.is c.get-in-If.ensures in (search (w, rules), c.requires)

pub add_names-requires-in-If-2 : goal.add_names-requires-in-If-2
add_names-requires-in-If-2 t c = let w = weight_first _ _ _ _ _ c.in-If.is c.get-in-If-2.ensures in (search (w, rules), (let a = c.in_ok-add_names-in-If.ensures.grown.longer in let b = c.requires in omega arith))

pub add_names-requires-in-If-3 : goal.add_names-requires-in-If-3
add_names-requires-in-If-3 t c = let w = weight_second _ _ _ _ _ c.in-If.is c.get-in-If-3.ensures in (search (w, rules), (let a = c.in_ok-add_names-in-If.ensures.grown.longer in let d = c.in_ok-add_names-in-If-2.ensures.grown.longer in let b = c.requires in omega arith))

pub returns-in-Lit-clause-grown : goal.returns-in-Lit-clause-grown
returns-in-Lit-clause-grown t c = grown_none c.args.node (NamedIn c.args.expr.now) c.args.self.now

pub returns-in-Lit-clause-all : goal.returns-in-Lit-clause-all
returns-in-Lit-clause-all t c = record { each = (λ row n l. absurd (named_lit _ row (subst (λ (q : Expr). NamedIn q row) c.in-Lit.is n))) }

pub returns-in-Read-clause-grown : goal.returns-in-Read-clause-grown
returns-in-Read-clause-grown t c = on_ok c.add_reader.result
    (λ g. grown_as c.args.node (IsOne c.in-Read.row) (NamedIn c.args.expr.now) c.args.self.now c.add_reader.new.self (λ row n. subst (λ (q : Expr). NamedIn q row) (sym c.in-Read.is) (read_named c.in-Read.row row n)) g)
    c.add_reader.ensures.grown

pub returns-in-Read-clause-all : goal.returns-in-Read-clause-all
returns-in-Read-clause-all t c = on_ok c.add_reader.result
    (λ h. all_as (IsOne c.in-Read.row) (NamedIn c.args.expr.now) c.args.from c.add_reader.new.self (λ row n. named_read c.in-Read.row row (subst (λ (q : Expr). NamedIn q row) c.in-Read.is n)) h)
    c.add_reader.ensures.all

pub returns-in_ok-add_names-in-Binary-clause-grown : goal.returns-in_ok-add_names-in-Binary-clause-grown
returns-in_ok-add_names-in-Binary-clause-grown t c = let is = c.in-Binary.is in
    let l = c.get.result.now in let r = c.get-in-Binary.result.now in
    on_ok c.add_names-in-Binary.result
    (λ g. grown_more c.args.node (NamedIn l) (NamedIn r) (NamedIn c.args.expr.now) c.args.self.now c.add_names.new.self c.add_names-in-Binary.new.self
    (left_named c.args.expr.now l _ _ _ is c.get.ensures) (right_named c.args.expr.now r _ _ _ is c.get-in-Binary.ensures) c.in_ok-add_names-in-Binary.ensures.grown g)
    c.add_names-in-Binary.ensures.grown

pub returns-in_ok-add_names-in-Binary-clause-all : goal.returns-in_ok-add_names-in-Binary-clause-all
returns-in_ok-add_names-in-Binary-clause-all t c = let is = c.in-Binary.is in
    let l = c.get.result.now in let r = c.get-in-Binary.result.now in
    both_ok c.add_names-in-Binary.result
    (λ g h. all_both (NamedIn l) (NamedIn r) (NamedIn c.args.expr.now) c.args.from c.add_names-in-Binary.new.self
    (names_binary c.args.expr.now l r _ _ _ is c.get.ensures c.get-in-Binary.ensures)
    (all_later c.args.node (NamedIn l) (NamedIn r) c.args.from c.add_names.new.self c.add_names-in-Binary.new.self c.in_ok-add_names-in-Binary.ensures.all g) h)
    c.add_names-in-Binary.ensures.grown c.add_names-in-Binary.ensures.all

pub returns-in_ok-add_names-in-If-2-clause-grown : goal.returns-in_ok-add_names-in-If-2-clause-grown
returns-in_ok-add_names-in-If-2-clause-grown t c = let is = c.in-If.is in
    let u = c.get-in-If.result.now in let f = c.get-in-If-2.result.now in let s = c.get-in-If-3.result.now in
    on_ok c.add_names-in-If-3.result
    (λ g. grown_more c.args.node (Either (NamedIn u) (NamedIn f)) (NamedIn s) (NamedIn c.args.expr.now) c.args.self.now c.add_names-in-If-2.new.self c.add_names-in-If-3.new.self
    (branches_named c.args.expr.now u f _ _ _ is c.get-in-If.ensures c.get-in-If-2.ensures) (second_named c.args.expr.now s _ _ _ is c.get-in-If-3.ensures)
    (grown_more c.args.node (NamedIn u) (NamedIn f) (Either (NamedIn u) (NamedIn f)) c.args.self.now c.add_names-in-If.new.self c.add_names-in-If-2.new.self (λ row n. inl n) (λ row n. inr n) c.in_ok-add_names-in-If.ensures.grown c.in_ok-add_names-in-If-2.ensures.grown) g)
    c.add_names-in-If-3.ensures.grown

pub returns-in_ok-add_names-in-If-2-clause-all : goal.returns-in_ok-add_names-in-If-2-clause-all
returns-in_ok-add_names-in-If-2-clause-all t c = let is = c.in-If.is in
    let u = c.get-in-If.result.now in let f = c.get-in-If-2.result.now in let s = c.get-in-If-3.result.now in
    both_ok c.add_names-in-If-3.result
    (λ g h. all_both (Either (NamedIn u) (NamedIn f)) (NamedIn s) (NamedIn c.args.expr.now) c.args.from c.add_names-in-If-3.new.self
    (names_if c.args.expr.now u f s _ _ _ is c.get-in-If.ensures c.get-in-If-2.ensures c.get-in-If-3.ensures)
    (all_later c.args.node (Either (NamedIn u) (NamedIn f)) (NamedIn s) c.args.from c.add_names-in-If-2.new.self c.add_names-in-If-3.new.self
    (all_both (NamedIn u) (NamedIn f) (Either (NamedIn u) (NamedIn f)) c.args.from c.add_names-in-If-2.new.self (λ row n. n)
    (all_later c.args.node (NamedIn u) (NamedIn f) c.args.from c.add_names-in-If.new.self c.add_names-in-If-2.new.self c.in_ok-add_names-in-If.ensures.all c.in_ok-add_names-in-If-2.ensures.grown)
    c.in_ok-add_names-in-If-2.ensures.all) g) h)
    c.add_names-in-If-3.ensures.grown c.add_names-in-If-3.ensures.all
