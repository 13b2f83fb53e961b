use Rattle.std.proofs.Common.{◌≡◌, ◌+◌, length, map, drop}
use Rattle.cl_meaning.specs.Expressions.{all_used, commas, operand_of}
use Rattle.cl_meaning.specs.Views.{expr_by, tasks_by}
use Rattle.cl_meaning.proofs.Unfolded.{Left}
use Rattle.cl_meaning.proofs.expression.Unfolding.+unfolding.Given as goal

abbrev pub invariant-all_used-loop-operand : goal.invariant-all_used-loop-operand
invariant-all_used-loop-operand l =
    Left (tasks_by l.initial.out.items) (all_used (map (λ e. operand_of l.self.types.now (expr_by e)) l.operands)) (tasks_by l.out.items) (all_used (map (λ e. operand_of l.self.types.now (expr_by e)) (drop l.operand-index l.operands)))

abbrev pub invariant-commas-loop-part : goal.invariant-commas-loop-part
invariant-commas-loop-part l =
    record {
      going : Left (tasks_by l.initial.out.items) (commas l.self.types.now (map (λ e. operand_of l.self.types.now (expr_by e)) l.operands)) (tasks_by l.out.items) (commas l.self.types.now (map (λ e. operand_of l.self.types.now (expr_by e)) (drop l.part-index l.operands)));
      count : l.left + l.part-index ≡ length l.operands;
    }
