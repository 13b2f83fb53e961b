use Rattle.std.proofs.Common.{sym, subst}
use Rattle.cl_builtins.specs.Found.{IsKnown}
use Rattle.cl_builtins.proofs.Growth.{grown_known}
use Rattle.cl_tree.specs.declared.shape.Shape.TheVariants as shape
use Rattle.cl_rules.specs.declared.rule.Want.TheVariants as want
use Rattle.cl_make.proofs.Answering.{given_known}
use Rattle.cl_unit_tests.proofs.cl_make_tests.name.Goals as goal

pub given-requires : goal.given-requires
given-requires c =
    let old = c.of_shape.new.types in
    let new = c.wanted.new.types in
    subst (IsKnown new) (sym c.in_ok-own.ensures.number) (grown_known old new c.in_ok-ty.ty c.wanted.ensures.grows.grown (given_known old (want.Of shape.Bool) c.in_ok-ty.ty c.in_ok-ty.ensures.number))

pub named-typed-requires : goal.named-typed-requires
named-typed-requires c = given_known c.given.new.types (want.Type c.in_ok-own.own) c.in_ok-gives.gives c.in_ok-gives.ensures.number

pub shaped-requires : goal.shaped-requires
shaped-requires c = given_known c.given.new.types (want.Type c.in_ok-own.own) c.in_ok-gives.gives c.in_ok-gives.ensures.number
