use Rattle.std.proofs.Common.{◌≡◌, true, not, refl, sym, ap, ◌∙◌, subst}
use Rattle.cl_ast.specs.declared.expression.Base.TheViews.{out-Declor}
use Rattle.cl_make.proofs.Growing.{grows_twice}
use Rattle.cl_make.proofs.Stays.{env_stays}
use Rattle.cl_type_expr.specs.Typing.{LengthsStop, LengthsAre}
use Rattle.cl_words.specs.Words.{is_open, sketch}
use Rattle.cl_scope.specs.Names.{declare}
use Rattle.cl_scope.specs.Scopes.{IsKnownEnv}
use Rattle.cl_type_expr.proofs.Nodes.{stop_exit}
use Rattle.cl_variables.specs.Declarations.{space_at, variable, is_file}
use Rattle.cl_variables.specs.Answers.{again_at, NameIs, NameStops, InitialIs, InitialStops, WholeIs, WholeStops}
use Rattle.cl_variables.proofs.Variables.{lengths_out, name_out, init_out, whole_out, variable_is, env_declared, sketch_ready, declared_later, within_is}
use Rattle.cl_variables.proofs.declaring.variable.Goals as goal

pub returns-in_err-lengths-clause-out : goal.returns-in_err-lengths-clause-out
returns-in_err-lengths-clause-out c =
    let s = c.in_err-lengths.field-0.0 in
    stop_exit c.from_residual.result _ _ c.from_residual.ensures.1
    (lengths_out c.lengths.new.types c.args.at c.args.kind c.args.names.now c.args.q c.args.d.now s
    (subst (λ z. LengthsStop c.lengths.new.types c.args.names.now true z s) c.deref.ensures.value c.in_err-lengths.ensures.out))

pub first_type-requires-clause-ready : goal.first_type-requires-clause-ready
first_type-requires-clause-ready c = λ e.
    let d = out-Declor c.args.d.now.name in
    sketch_ready c.args.types.now c.lengths.new.types c.args.q d.star c.in_ok-lengths.lengths c.new-sketch.result c.new-sketch.ensures c.is_table.ensures c.lengths.ensures.grows c.requires.type_ready e

pub returns-in_err-first-clause-out : goal.returns-in_err-first-clause-out
returns-in_err-first-clause-out c =
    let d = out-Declor c.args.d.now.name in
    let t1 = c.lengths.new.types in
    let t2 = c.first_type.new.types in
    let typed = c.lengths.new.names in
    let ls = c.in_ok-lengths.lengths in
    let s = c.in_err-first.field-0.0 in
    stop_exit c.from_residual-in_err-first.result _ _ c.from_residual-in_err-first.ensures.1
    (name_out c.args.at c.args.kind c.args.names.now typed c.args.q c.args.d.now ls t1 t2
    (subst (λ z. LengthsAre t1 c.args.names.now true z typed ls) c.deref.ensures.value c.in_ok-lengths.ensures.ok) c.first_type.ensures.grows s
    (subst (λ k. NameStops t2 c.args.at (again_at c.args.at typed d.name) d.place k s) c.new-sketch.ensures c.in_err-first.ensures.out))

-- the name in its own initialiser

pub initialised-requires-clause-known : goal.initialised-requires-clause-known
initialised-requires-clause-known c =
    let t1 = c.lengths.new.types in
    let t2 = c.first_type.new.types in
    let first = c.in_ok-first.first in
    subst (IsKnownEnv t2) (sym c.in_ok-declare.ensures)
    (env_declared t2 c.lengths.new.names _ (env_stays t1 t2 c.lengths.new.names c.first_type.ensures.grows.grown c.in_ok-lengths.ensures.ok.known) c.in_ok-first.ensures.ok.is.known)

pub initialised-requires-clause-ready : goal.initialised-requires-clause-ready
initialised-requires-clause-ready c =
    let d = out-Declor c.args.d.now.name in
    let old = c.args.types.now in
    let t1 = c.lengths.new.types in
    let t2 = c.first_type.new.types in
    sketch_ready old t2 c.args.q d.star c.in_ok-lengths.lengths c.new-sketch.result c.new-sketch.ensures c.is_table.ensures (grows_twice old t1 t2 c.lengths.ensures.grows c.first_type.ensures.grows) c.requires.type_ready c.in_ok-first.ensures.ok.element

pub returns-in_err-initial-clause-out : goal.returns-in_err-initial-clause-out
returns-in_err-initial-clause-out c =
    let d = out-Declor c.args.d.now.name in
    let env = c.args.names.now in
    let w = c.args.at in
    let t1 = c.lengths.new.types in
    let t2 = c.first_type.new.types in
    let t3 = c.initialised.new.types in
    let typed = c.lengths.new.names in
    let ls = c.in_ok-lengths.lengths in
    let k = c.new-sketch.result in
    let first = c.in_ok-first.first in
    let lengths : LengthsAre t1 env true d.lengths.items typed ls = subst (λ z. LengthsAre t1 env true z typed ls) c.deref.ensures.value c.in_ok-lengths.ensures.ok in
    let name : NameIs t2 w (again_at w typed d.name) (sketch c.args.q d.star ls) first = subst (λ z. NameIs t2 w (again_at w typed d.name) z first) c.new-sketch.ensures c.in_ok-first.ensures.ok in
    let within : c.declare.new.names ≡ declare (variable w d.name first (sketch c.args.q d.star ls) c.args.kind (not (is_open ls))) typed =
    within_is w c.args.kind env typed c.args.q c.args.d.now ls t1 t2 lengths c.first_type.ensures.grows first name t3 c.initialised.ensures.grows k (not c.is_open-complete.result) c.declare.new.names c.new-sketch.ensures (ap not (c.is_open-complete.ensures ∙ ap is_open c.as_slice.ensures)) c.in_ok-declare.ensures in
    let s = c.in_err-initial.field-0.0 in
    stop_exit c.from_residual-in_err-initial.result _ _ c.from_residual-in_err-initial.ensures.1
    (init_out w c.args.kind env typed c.args.q c.args.d.now ls t1 t2 lengths c.first_type.ensures.grows first name t3 c.initialised.ensures.grows s
    (subst (λ z. InitialStops t3 (is_file w) z c.args.d.now.init (sketch c.args.q d.star ls) first s) within
    (subst (λ z. InitialStops t3 (is_file w) c.declare.new.names c.args.d.now.init z first s) c.new-sketch.ensures
    (subst (λ z. InitialStops t3 z c.declare.new.names c.args.d.now.init k first s) c.is_file.ensures c.in_err-initial.ensures.out))))

pub whole_type-requires-clause-ready : goal.whole_type-requires-clause-ready
whole_type-requires-clause-ready c =
    let d = out-Declor c.args.d.now.name in
    let old = c.args.types.now in
    let t1 = c.lengths.new.types in
    let t2 = c.first_type.new.types in
    let t3 = c.initialised.new.types in
    sketch_ready old t3 c.args.q d.star c.in_ok-lengths.lengths c.new-sketch.result c.new-sketch.ensures c.is_table.ensures
    (grows_twice old t1 t3 c.lengths.ensures.grows (grows_twice t1 t2 t3 c.first_type.ensures.grows c.initialised.ensures.grows)) c.requires.type_ready c.in_ok-first.ensures.ok.element

pub whole_type-requires-clause-type_is : goal.whole_type-requires-clause-type_is
whole_type-requires-clause-type_is c =
    declared_later c.first_type.new.types c.initialised.new.types c.new-sketch.result 1 c.in_ok-first.first c.initialised.ensures.grows.grown c.in_ok-first.ensures.ok.is

pub returns-in_err-ty-clause-out : goal.returns-in_err-ty-clause-out
returns-in_err-ty-clause-out c =
    let d = out-Declor c.args.d.now.name in
    let env = c.args.names.now in
    let w = c.args.at in
    let t1 = c.lengths.new.types in
    let t2 = c.first_type.new.types in
    let t3 = c.initialised.new.types in
    let typed = c.lengths.new.names in
    let ls = c.in_ok-lengths.lengths in
    let k = c.new-sketch.result in
    let first = c.in_ok-first.first in
    let lengths : LengthsAre t1 env true d.lengths.items typed ls = subst (λ z. LengthsAre t1 env true z typed ls) c.deref.ensures.value c.in_ok-lengths.ensures.ok in
    let name : NameIs t2 w (again_at w typed d.name) (sketch c.args.q d.star ls) first = subst (λ z. NameIs t2 w (again_at w typed d.name) z first) c.new-sketch.ensures c.in_ok-first.ensures.ok in
    let within : c.declare.new.names ≡ declare (variable w d.name first (sketch c.args.q d.star ls) c.args.kind (not (is_open ls))) typed =
    within_is w c.args.kind env typed c.args.q c.args.d.now ls t1 t2 lengths c.first_type.ensures.grows first name t3 c.initialised.ensures.grows k (not c.is_open-complete.result) c.declare.new.names c.new-sketch.ensures (ap not (c.is_open-complete.ensures ∙ ap is_open c.as_slice.ensures)) c.in_ok-declare.ensures in
    let behind = c.initialised.new.names in
    let r = c.in_ok-initial.initial in
    let t4 = c.whole_type.new.types in
    let initial : InitialIs t3 (is_file w) (declare (variable w d.name first (sketch c.args.q d.star ls) c.args.kind (not (is_open ls))) typed) c.args.d.now.init (sketch c.args.q d.star ls) first behind r =
    subst (λ z. InitialIs t3 (is_file w) z c.args.d.now.init (sketch c.args.q d.star ls) first behind r) within
    (subst (λ z. InitialIs t3 (is_file w) c.declare.new.names c.args.d.now.init z first behind r) c.new-sketch.ensures
    (subst (λ z. InitialIs t3 z c.declare.new.names c.args.d.now.init k first behind r) c.is_file.ensures c.in_ok-initial.ensures.ok)) in
    let s = c.in_err-ty.field-0.0 in
    stop_exit c.from_residual-in_err-ty.result _ _ c.from_residual-in_err-ty.ensures.1
    (whole_out w c.args.kind env typed c.args.q c.args.d.now ls t1 t2 lengths c.first_type.ensures.grows first name t3 c.initialised.ensures.grows behind r initial t4 c.whole_type.ensures.grows s
    (subst (λ z. WholeStops t4 w c.args.d.now z r.tally r.count s) c.new-sketch.ensures c.in_err-ty.ensures.out))

pub returns-clause-ok : goal.returns-clause-ok
returns-clause-ok c =
    let d = out-Declor c.args.d.now.name in
    let env = c.args.names.now in
    let w = c.args.at in
    let t1 = c.lengths.new.types in
    let t2 = c.first_type.new.types in
    let t3 = c.initialised.new.types in
    let typed = c.lengths.new.names in
    let ls = c.in_ok-lengths.lengths in
    let k = c.new-sketch.result in
    let first = c.in_ok-first.first in
    let lengths : LengthsAre t1 env true d.lengths.items typed ls = subst (λ z. LengthsAre t1 env true z typed ls) c.deref.ensures.value c.in_ok-lengths.ensures.ok in
    let name : NameIs t2 w (again_at w typed d.name) (sketch c.args.q d.star ls) first = subst (λ z. NameIs t2 w (again_at w typed d.name) z first) c.new-sketch.ensures c.in_ok-first.ensures.ok in
    let within : c.declare.new.names ≡ declare (variable w d.name first (sketch c.args.q d.star ls) c.args.kind (not (is_open ls))) typed =
    within_is w c.args.kind env typed c.args.q c.args.d.now ls t1 t2 lengths c.first_type.ensures.grows first name t3 c.initialised.ensures.grows k (not c.is_open-complete.result) c.declare.new.names c.new-sketch.ensures (ap not (c.is_open-complete.ensures ∙ ap is_open c.as_slice.ensures)) c.in_ok-declare.ensures in
    let behind = c.initialised.new.names in
    let r = c.in_ok-initial.initial in
    let t4 = c.whole_type.new.types in
    let initial : InitialIs t3 (is_file w) (declare (variable w d.name first (sketch c.args.q d.star ls) c.args.kind (not (is_open ls))) typed) c.args.d.now.init (sketch c.args.q d.star ls) first behind r =
    subst (λ z. InitialIs t3 (is_file w) z c.args.d.now.init (sketch c.args.q d.star ls) first behind r) within
    (subst (λ z. InitialIs t3 (is_file w) c.declare.new.names c.args.d.now.init z first behind r) c.new-sketch.ensures
    (subst (λ z. InitialIs t3 z c.declare.new.names c.args.d.now.init k first behind r) c.is_file.ensures c.in_ok-initial.ensures.ok)) in
    let ty = c.in_ok-ty.ty in
    let whole : WholeIs t4 w c.args.d.now (sketch c.args.q d.star ls) r.tally r.count ty = subst (λ z. WholeIs t4 w c.args.d.now z r.tally r.count ty) c.new-sketch.ensures c.in_ok-ty.ensures.ok in
    variable_is w c.args.kind env typed c.args.q c.args.d.now ls t1 t2 lengths c.first_type.ensures.grows first name t3 c.initialised.ensures.grows behind r initial t4 c.whole_type.ensures.grows ty c.declare-2.new.names _ whole
    (subst (λ z. c.declare-2.new.names ≡ declare (variable w d.name ty z c.args.kind true) behind) c.new-sketch.ensures c.in_ok-declare-2.ensures)
    (c.in_ok-from_bytes.ensures ∙ c.as_slice-2.ensures) refl refl (c.space.ensures ∙ ap (λ z. space_at w z.space) c.new-sketch.ensures) refl
