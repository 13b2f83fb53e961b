use Rattle.std.proofs.Common.{Some, refl, sym, subst}
use Rattle.launch_text.specs.Rules.{IsLeastBroken, loaded}
use Rattle.vk_bind.specs.Answers.{taken_from}
use Rattle.launch_text.proofs.Breaking.{passed_11}
use Rattle.vk_bind.proofs.Breaking.{none_found, least_at, least_whole, keeps_rules, passed_12, passed_14, passed_15, passed_16, passed_18}
use Rattle.vk_bind.proofs.binding.least_broken.Goals as goal

pub returns-in-Some : goal.returns-in-Some
returns-in-Some c =
    let l = loaded c.args.launch.now c.args.buffers.now in
    let t = taken_from c.args.parameters.now c.args.required in
    subst (IsLeastBroken l (Some t)) (sym c.at.ensures) (least_at l t 11 _ (passed_11 l t) (c.in-Some.ensures c.args.buffers.now c.args.required))

pub returns-in-Some-first_breaking : goal.returns-in-Some-first_breaking
returns-in-Some-first_breaking c =
    let l = loaded c.args.launch.now c.args.buffers.now in
    let t = taken_from c.args.parameters.now c.args.required in
    let a = none_found l t 11 _ c.in_default.not-Some (c.first_unmatched.ensures c.args.buffers.now c.args.required) in
    subst (IsLeastBroken l (Some t)) (sym c.at-in-Some-first_breaking.ensures) (least_at l t 12 _ (passed_12 l t a) (c.in-Some-first_breaking.ensures c.args.buffers.now c.args.required))

pub returns-in-Some-first_of_other_size : goal.returns-in-Some-first_of_other_size
returns-in-Some-first_of_other_size c =
    let l = loaded c.args.launch.now c.args.buffers.now in
    let t = taken_from c.args.parameters.now c.args.required in
    let a = none_found l t 11 _ c.in_default.not-Some (c.first_unmatched.ensures c.args.buffers.now c.args.required) in
    let b = none_found l t 12 _ c.in_default-first_breaking.not-Some (c.first_breaking.ensures c.args.buffers.now c.args.required) in
    subst (IsLeastBroken l (Some t)) (sym c.at-in-Some-first_of_other_size.ensures) (least_at l t 14 _ (passed_14 l c.args.parameters.now c.args.required a b) (c.in-Some-first_of_other_size.ensures c.args.required))

pub returns-in-Some-first_breaking-2 : goal.returns-in-Some-first_breaking-2
returns-in-Some-first_breaking-2 c =
    let l = loaded c.args.launch.now c.args.buffers.now in
    let t = taken_from c.args.parameters.now c.args.required in
    let a = none_found l t 11 _ c.in_default.not-Some (c.first_unmatched.ensures c.args.buffers.now c.args.required) in
    let b = none_found l t 12 _ c.in_default-first_breaking.not-Some (c.first_breaking.ensures c.args.buffers.now c.args.required) in
    let d = none_found l t 14 _ c.in_default-first_of_other_size.not-Some (c.first_of_other_size.ensures c.args.required) in
    subst (IsLeastBroken l (Some t)) (sym c.at-in-Some-first_breaking-2.ensures) (least_at l t 15 _ (passed_15 l c.args.parameters.now c.args.required a b d) (c.in-Some-first_breaking-2.ensures c.args.buffers.now c.args.required))

pub returns-in-Some-first_breaking-3 : goal.returns-in-Some-first_breaking-3
returns-in-Some-first_breaking-3 c =
    let l = loaded c.args.launch.now c.args.buffers.now in
    let t = taken_from c.args.parameters.now c.args.required in
    let a = none_found l t 11 _ c.in_default.not-Some (c.first_unmatched.ensures c.args.buffers.now c.args.required) in
    let b = none_found l t 12 _ c.in_default-first_breaking.not-Some (c.first_breaking.ensures c.args.buffers.now c.args.required) in
    let d = none_found l t 14 _ c.in_default-first_of_other_size.not-Some (c.first_of_other_size.ensures c.args.required) in
    let e = none_found l t 15 _ c.in_default-first_breaking-2.not-Some (c.first_breaking-2.ensures c.args.buffers.now c.args.required) in
    subst (IsLeastBroken l (Some t)) (sym c.at-in-Some-first_breaking-3.ensures) (least_at l t 16 _ (passed_16 l c.args.parameters.now c.args.required a b d e) (c.in-Some-first_breaking-3.ensures c.args.buffers.now c.args.required))

pub returns-in-Some-broken_whole : goal.returns-in-Some-broken_whole
returns-in-Some-broken_whole c =
    let l = loaded c.args.launch.now c.args.buffers.now in
    let t = taken_from c.args.parameters.now c.args.required in
    let a = none_found l t 11 _ c.in_default.not-Some (c.first_unmatched.ensures c.args.buffers.now c.args.required) in
    let b = none_found l t 12 _ c.in_default-first_breaking.not-Some (c.first_breaking.ensures c.args.buffers.now c.args.required) in
    let d = none_found l t 14 _ c.in_default-first_of_other_size.not-Some (c.first_of_other_size.ensures c.args.required) in
    let e = none_found l t 15 _ c.in_default-first_breaking-2.not-Some (c.first_breaking-2.ensures c.args.buffers.now c.args.required) in
    let f = none_found l t 16 _ c.in_default-first_breaking-3.not-Some (c.first_breaking-3.ensures c.args.buffers.now c.args.required) in
    least_whole l t _ (passed_18 l c.args.parameters.now c.args.required a b d e f) (c.in-Some-broken_whole.ensures c.args.buffers.now t refl)

pub returns-in-None : goal.returns-in-None
returns-in-None c =
    let l = loaded c.args.launch.now c.args.buffers.now in
    let t = taken_from c.args.parameters.now c.args.required in
    let a = none_found l t 11 _ c.in_default.not-Some (c.first_unmatched.ensures c.args.buffers.now c.args.required) in
    let b = none_found l t 12 _ c.in_default-first_breaking.not-Some (c.first_breaking.ensures c.args.buffers.now c.args.required) in
    let d = none_found l t 14 _ c.in_default-first_of_other_size.not-Some (c.first_of_other_size.ensures c.args.required) in
    let e = none_found l t 15 _ c.in_default-first_breaking-2.not-Some (c.first_breaking-2.ensures c.args.buffers.now c.args.required) in
    let f = none_found l t 16 _ c.in_default-first_breaking-3.not-Some (c.first_breaking-3.ensures c.args.buffers.now c.args.required) in
    keeps_rules l t (passed_18 l c.args.parameters.now c.args.required a b d e f) (c.in-None.ensures c.args.buffers.now t refl)
