use Rattle.std.proofs.Common.{◌≡◌, ◌++◌, OnOk, map, sym, subst, rules}
use Rattle.cl_meaning.specs.declared.code.Expr.{out-Expr}
use Rattle.cl_meaning.specs.Expressions.{operand_of}
use Rattle.cl_meaning.specs.Views.{expr_by, tasks_by}
use Rattle.cl_meaning.proofs.Componentwise.{is_applied}
use Rattle.cl_meaning.proofs.ending.built_in.Goals as goal

pub returns-in_default : goal.returns-in_default
returns-in_default c =
    let e = c.args.e.now in
    subst (λ ts. OnOk c.applies.result (tasks_by c.applies.new.out.items ≡ tasks_by c.args.out.now.items ++ ts))
    (sym (is_applied c.args.types.now c.args.function (out-Expr e).ty (out-Expr e).number (map (λ e. operand_of c.args.types.now (expr_by e)) (out-Expr e).operands.items) (record {
      no_get_work_dim = c.in_default.not-GetWorkDim;
      no_get_global_size = c.in_default.not-GetGlobalSize;
      no_get_global_id = c.in_default.not-GetGlobalId;
      no_get_local_size = c.in_default.not-GetLocalSize;
      no_get_local_id = c.in_default.not-GetLocalId;
      no_get_num_groups = c.in_default.not-GetNumGroups;
      no_get_group_id = c.in_default.not-GetGroupId;
      no_get_global_offset = c.in_default.not-GetGlobalOffset;
      no_vload = c.in_default.not-Vload;
      no_vstore = c.in_default.not-Vstore;
      no_barrier = c.in_default.not-Barrier;
      no_mem_fence = c.in_default.not-MemFence;
      no_read_mem_fence = c.in_default.not-ReadMemFence;
      no_write_mem_fence = c.in_default.not-WriteMemFence;
      no_atomic_add = c.in_default.not-AtomicAdd;
      no_atomic_sub = c.in_default.not-AtomicSub;
      no_atomic_xchg = c.in_default.not-AtomicXchg;
      no_atomic_min = c.in_default.not-AtomicMin;
      no_atomic_max = c.in_default.not-AtomicMax;
      no_atomic_and = c.in_default.not-AtomicAnd;
      no_atomic_or = c.in_default.not-AtomicOr;
      no_atomic_xor = c.in_default.not-AtomicXor;
      no_atomic_inc = c.in_default.not-AtomicInc;
      no_atomic_dec = c.in_default.not-AtomicDec;
      no_atomic_cmpxchg = c.in_default.not-AtomicCmpxchg;
    })))
    (search rules)
