use Rattle.std.proofs.Common.{◌≡◌, List, ◌+◌, take, get_or, sym, ◌∙◌, subst, arith}
use Rattle.std.specs.List.{AllZip}
use Rattle.std.proofs.lemmas.List.{take_more, take_all}
use Rattle.cl_builtins.specs.declared.kind.Kind.{Kind}
use Rattle.cl_builtins.specs.declared.kind.Kind.TheVariants as kind
use Rattle.cl_builtins.specs.Found.{HasKind}
use Rattle.cl_builtins.specs.Tables.{EachOfTable}
use Rattle.cl_builtins.proofs.Growth.{Answered, each_at, of_table_kept, answered_more, keeps_twice, zip_kept}
use Rattle.cl_builtins.proofs.call.answer.Goals as goal

pub type_of-requires : goal.type_of-requires
type_of-requires c =
    let xs = c.as_slice-kind-items.result.now in
    of_table_kept c.args.types.now c.loop-kind.types (get_or xs c.loop-kind.kind-index kind.Void) c.loop-kind.invariant.kept
    (each_at c.args.types.now xs c.loop-kind.kind-index kind.Void (subst (EachOfTable c.args.types.now) (sym c.as_slice-kind-items.ensures) c.requires.0) (omega arith))

pub loop-kind-preserved : goal.loop-kind-preserved
loop-kind-preserved c =
    let xs = c.as_slice-kind-items.result.now in
    let i = c.loop-kind.kind-index in
    subst (Answered c.args.types.now c.type_of.new.types (take (i + 1) xs)) (sym c.in_ok-push.ensures.ok)
    (answered_more c.args.types.now c.loop-kind.types c.type_of.new.types (take i xs) (take (i + 1) xs) c.loop-kind.params (get_or xs i kind.Void) c.in_ok-type_of.field-0
    c.loop-kind.invariant c.in_ok-type_of.ensures.kept c.in_ok-type_of.ensures.number (take_more xs i kind.Void (omega arith)))

pub returns-clause-found : goal.returns-clause-found
returns-clause-found c =
    let xs = c.as_slice-kind-items.result.now in
    let new = c.type_of-2.new.types in
    let all : take c.loop-kind.kind-index xs ≡ c.args.form.now.params = take_all c.loop-kind.kind-index xs (omega arith) ∙ c.as_slice-kind-items.ensures in
    let out : c.loop-kind.params ≡ c.params-2.inside.items.items = cc in
    let found : AllZip (HasKind c.loop-kind.types) c.args.form.now.params c.loop-kind.params = subst (λ (ks : List Kind). AllZip (HasKind c.loop-kind.types) ks c.loop-kind.params) all c.loop-kind.invariant.found in
    record {
      builtin = c.named_by.ensures;
      params = subst (AllZip (HasKind new) c.args.form.now.params) out (zip_kept c.loop-kind.types new c.args.form.now.params c.loop-kind.params c.in_ok-type_of-2.ensures.kept found);
      result = c.in_ok-type_of-2.ensures.number;
    }

pub returns-in_err-push-clause-kept : goal.returns-in_err-push-clause-kept
returns-in_err-push-clause-kept c = keeps_twice c.args.types.now c.loop-kind.types c.type_of.new.types c.loop-kind.invariant.kept c.type_of.ensures.kept

pub returns-clause-kept : goal.returns-clause-kept
returns-clause-kept c = keeps_twice c.args.types.now c.loop-kind.types c.type_of-2.new.types c.loop-kind.invariant.kept c.type_of-2.ensures.kept
