use Rattle.std.proofs.Common.{ℕ, sym, ap, ◌∙◌}
use Rattle.std.proofs.lemmas.Result.{IfOk-weaker}
use Rattle.values.specs.declared.expr.Expr.TheVariants.{Binary, If}
use Rattle.plain_evaluation.specs.Keyed.{stands_for}
use Rattle.plan_meaning.specs.Layout.{read_by}
use Rattle.plan_meaning.specs.Renamed.{renamed}
use Rattle.plan_meaning.proofs.Renamed.{renamed-Lit, renamed-Read, renamed-Binary, renamed-If}
use Rattle.plan_lines.specs.Flags.{flag_at}
use Rattle.plan_lines.specs.Scenes.{scene_in}
use Rattle.node_plan.proofs.nodes.Reader.+expr.Goals as goal

pub returns-in-Lit : goal.returns-in-Lit
returns-in-Lit t c =
    let stand = λ (id : ℕ). read_by c.args.self.now.names.now (stands_for (flag_at c.args.self.now.keyed.now) (scene_in c.args.scene) id) in
    sym (ap (renamed stand) c.in-Lit.is ∙ renamed-Lit stand c.in-Lit.code)

pub returns-in-Read : goal.returns-in-Read
returns-in-Read t c =
    let stand = λ (id : ℕ). read_by c.args.self.now.names.now (stands_for (flag_at c.args.self.now.keyed.now) (scene_in c.args.scene) id) in
    c.read.ensures ∙ sym (ap (renamed stand) c.in-Read.is ∙ renamed-Read stand c.in-Read.id)

pub returns-in_ok-right-in-Binary : goal.returns-in_ok-right-in-Binary
returns-in_ok-right-in-Binary t c =
    let stand = λ (id : ℕ). read_by c.args.self.now.names.now (stands_for (flag_at c.args.self.now.keyed.now) (scene_in c.args.scene) id) in
    let own = c.in-Binary in
    let left = c.in_ok-left-in-Binary.ensures ∙ ap (renamed stand) c.get.ensures in
    let right = c.in_ok-right-in-Binary.ensures ∙ ap (renamed stand) c.get-in-Binary.ensures in
    IfOk-weaker c.operation.result _ _ (λ e is. is ∙ (λ i. Binary own.op (left i) (right i)) ∙ sym (ap (renamed stand) own.is ∙ renamed-Binary stand own.op own.left own.right)) c.operation.ensures

pub returns-in_ok-second-in-If : goal.returns-in_ok-second-in-If
returns-in_ok-second-in-If t c =
    let stand = λ (id : ℕ). read_by c.args.self.now.names.now (stands_for (flag_at c.args.self.now.keyed.now) (scene_in c.args.scene) id) in
    let own = c.in-If in
    let test = c.in_ok-test-in-If.ensures ∙ ap (renamed stand) c.get-in-If.ensures in
    let first = c.in_ok-first-in-If.ensures ∙ ap (renamed stand) c.get-in-If-2.ensures in
    let second = c.in_ok-second-in-If.ensures ∙ ap (renamed stand) c.get-in-If-3.ensures in
    IfOk-weaker c.choice.result _ _ (λ e is. is ∙ (λ i. If (test i) (first i) (second i)) ∙ sym (ap (renamed stand) own.is ∙ renamed-If stand own.test own.first own.second)) c.choice.ensures
