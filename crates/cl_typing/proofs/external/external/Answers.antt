use Rattle.std.proofs.Common.{refl}
use Rattle.cl_make.proofs.Growing.{grows_twice}
use Rattle.cl_typing.specs.UnitAnswers.{IsTypedef, TypedefOffends, ConstantsAreDeclared, ConstantsStopAt}
use Rattle.cl_typing.specs.Units.{with_env}
use Rattle.cl_typing.proofs.Externals.{external_typedef, external_typedef_out, external_types, external_types_out, external_constant_words_out, external_constants_out, external_constants}
use Rattle.cl_typing.proofs.Results.{stop_exit, on_ok, if_err}
use Rattle.cl_typing.proofs.external.external.Goals as goal

pub returns-in-Typedef-clause-ok : goal.returns-in-Typedef-clause-ok
returns-in-Typedef-clause-ok c =
    on_ok c.typedef.result (IsTypedef c.typedef.new.types c.args.unit.now.env c.in-Typedef.spec c.in-Typedef.name c.typedef.new.names) _ (external_typedef c.typedef.new.types c.args.bodies.now c.args.unit.now (with_env c.typedef.new.names c.args.unit.now) c.in-Typedef.spec c.in-Typedef.name c.args.e.now c.in-Typedef.is refl) c.typedef.ensures.ok

pub returns-in-Typedef-clause-out : goal.returns-in-Typedef-clause-out
returns-in-Typedef-clause-out c =
    if_err c.typedef.result (TypedefOffends c.typedef.new.types c.args.unit.now.env c.in-Typedef.spec c.in-Typedef.name) _ (λ x. external_typedef_out c.typedef.new.types c.args.bodies.now c.args.unit.now c.in-Typedef.spec c.in-Typedef.name c.args.e.now x c.in-Typedef.is) c.typedef.ensures.out

pub returns-in_err-words-in-Struct-clause-out : goal.returns-in_err-words-in-Struct-clause-out
returns-in_err-words-in-Struct-clause-out c =
    stop_exit c.from_residual.result _ _ c.from_residual.ensures.1
    (external_types_out c.words.new.types c.args.bodies.now c.args.unit.now c.in-Struct.spec c.args.e.now _ c.in-Struct.is c.in_err-words-in-Struct.ensures.out)

pub returns-in_ok-words-in-Struct-clause-ok : goal.returns-in_ok-words-in-Struct-clause-ok
returns-in_ok-words-in-Struct-clause-ok c =
    external_types c.words.new.types c.args.bodies.now c.args.unit.now (with_env c.words.new.names c.args.unit.now) c.in-Struct.spec c.args.e.now c.in_ok-words-in-Struct.field-0 c.in-Struct.is refl c.in_ok-words-in-Struct.ensures.ok

pub returns-in_err-q-in-Constant-clause-out : goal.returns-in_err-q-in-Constant-clause-out
returns-in_err-q-in-Constant-clause-out c =
    stop_exit c.from_residual-in_err-q-in-Constant.result _ _ c.from_residual-in_err-q-in-Constant.ensures.1
    (external_constant_words_out c.words-in-Constant.new.types c.words-in-Constant.new.types c.args.bodies.now c.args.unit.now c.in-Constant.spec c.in-Constant.items c.args.e.now c.in-Constant.is _ c.in_err-q-in-Constant.ensures.out)

pub constants-requires-clause-known : goal.constants-requires-clause-known
constants-requires-clause-known c = c.in_ok-q-in-Constant.ensures.ok.known

pub constants-requires-clause-type_ready : goal.constants-requires-clause-type_ready
constants-requires-clause-type_ready c = c.in_ok-q-in-Constant.ensures.ok.ready

pub returns-in_ok-q-in-Constant-clause-ok : goal.returns-in_ok-q-in-Constant-clause-ok
returns-in_ok-q-in-Constant-clause-ok c =
    on_ok c.constants.result (ConstantsAreDeclared c.constants.new.types c.in_ok-q-in-Constant.q (with_env c.words-in-Constant.new.names c.args.unit.now) c.in-Constant.items.items c.constants.new.unit) _ (external_constants c.words-in-Constant.new.types c.constants.new.types c.args.bodies.now c.args.unit.now c.in-Constant.spec c.in-Constant.items c.args.e.now c.in-Constant.is c.words-in-Constant.new.names c.in_ok-q-in-Constant.q c.in_ok-q-in-Constant.ensures.ok c.constants.ensures.grows.grown c.constants.new.unit) (rw c.deref.ensures.value at c.constants.ensures.ok)

pub returns-in_ok-q-in-Constant-clause-out : goal.returns-in_ok-q-in-Constant-clause-out
returns-in_ok-q-in-Constant-clause-out c =
    if_err c.constants.result (ConstantsStopAt c.constants.new.types c.in_ok-q-in-Constant.q (with_env c.words-in-Constant.new.names c.args.unit.now) c.in-Constant.items.items) _ (external_constants_out c.words-in-Constant.new.types c.constants.new.types c.args.bodies.now c.args.unit.now c.in-Constant.spec c.in-Constant.items c.args.e.now c.in-Constant.is c.words-in-Constant.new.names c.in_ok-q-in-Constant.q c.in_ok-q-in-Constant.ensures.ok c.constants.ensures.grows.grown) (rw c.deref.ensures.value at c.constants.ensures.out)

pub returns-in_ok-q-in-Constant-clause-grows : goal.returns-in_ok-q-in-Constant-clause-grows
returns-in_ok-q-in-Constant-clause-grows c = grows_twice _ _ _ c.in_ok-q-in-Constant.ensures.grows c.constants.ensures.grows

pub prototype-requires-clause-is : goal.prototype-requires-clause-is
prototype-requires-clause-is c = rw c.in-None.is at c.in-Function.is

pub defined-requires-clause-is : goal.defined-requires-clause-is
defined-requires-clause-is c = rw c.in-Some.is at c.in-Function.is
