-- The words before a function have one verdict, whatever numbers types have.
use Rattle.std.proofs.Common.{◌≡◌, ℕ, List, [], ◌∷◌, refl, sym, ap, ◌∙◌, Bool, true≢false, Option, Some, None}
use Rattle.clv_place.specs.declared.stop.Offence.{Offence}
use Rattle.cl_types.specs.declared.types.ClType.{ClType}
use Rattle.cl_types.specs.Table.{AreBuilt}
use Rattle.cl_ast.specs.declared.declaration.FWord.{FWord}
use Rattle.cl_ast.specs.declared.expression.Expr.{Expr}
use Rattle.cl_tree.specs.Constants.{divides}
use Rattle.cl_rules.specs.Operands.{first_broken}
use Rattle.cl_scope.specs.Names.{Env}
use Rattle.cl_make.proofs.Growing.{none_some, some_same}
use Rattle.cl_type_expr.specs.Offences.{at}
use Rattle.cl_typing.specs.Units.{size_of, size_tests, ConstantsAre, no_constant, more_constants, ConstantsOffend, in_constant, constant_divides, behind_constant, SizesAre, no_word, other_word, required, SizesOffend, in_arguments, no_size, behind_other, behind_required}
use Rattle.cl_renaming.specs.Renaming.{env_as, IsRenaming, AreTypes}
use Rattle.cl_renaming.proofs.Agreement.{types_same}
use Rattle.cl_renaming.proofs.Excluded.{typed_no_offence}
use Rattle.cl_renaming.proofs.Excluding.{offence_no_type}
use Rattle.cl_renaming.proofs.OneOffence.{offences_one}
use Rattle.cl_renaming.proofs.Values.{constancy_as, positive_of_as}

module _ (cs ds : List ClType) (r : ℕ → ℕ) (e : IsRenaming cs ds r) (bc : AreBuilt [] cs) (b : AreTypes ds) where
  -- ---- constants in brackets

  pub constants_same : (i0 : Env) (i1 : List Expr) (i2 : Env) (i3 : List (Option ℕ)) → ConstantsAre cs i0 i1 i2 i3 → (j0 j2 : Env) (j3 : List (Option ℕ)) → j0 ≡ env_as r i0 → ConstantsAre ds j0 i1 j2 j3 → (j2 ≡ env_as r i2) × (j3 ≡ i3)
  constants_same _ _ _ _ (no_constant env) _ _ _ f (no_constant env2) = (f, refl)
  constants_same _ _ _ _ (more_constants env middle after x es t o n ns h0 h1 h2 h3) _ _ _ f (more_constants env2 middle2 after2 x2 es2 t2 o2 n2 ns2 k0 k1 k2 k3) =
      let a = types_same cs ds r e bc b _ _ _ _ _ _ h0 env2 middle2 t2 o2 f k0 in
      let g : n2 ≡ n = sym k2 ∙ positive_of_as cs ds r e t t2 a.2 ∙ h2 in
      let s = constants_same _ _ _ _ h3 middle2 after2 ns2 a.0 k3 in
      (s.0, (λ i. g i ∷ s.1 i))

  pub constants_no_offence : (j0 : Env) (j1 : List Expr) (j2 : Offence) → ConstantsOffend ds j0 j1 j2 → (i0 i2 : Env) (i3 : List (Option ℕ)) → j0 ≡ env_as r i0 → ConstantsAre cs i0 j1 i2 i3 → ⊥
  constants_no_offence _ _ _ (in_constant env x es o h0) _ _ _ f (more_constants env1 middle1 after1 x1 es1 t1 o1 n1 ns1 k0 k1 k2 k3) = typed_no_offence cs ds r e bc b _ _ _ _ h0 env1 middle1 t1 o1 f k0
  constants_no_offence _ _ _ (constant_divides env middle x es t q p h0 h1) _ _ _ f (more_constants env1 middle1 after1 x1 es1 t1 o1 n1 ns1 k0 k1 k2 k3) =
      let a = types_same cs ds r e bc b _ _ _ _ _ _ k0 env middle t q f h0 in
      none_some (sym k1 ∙ ap divides (sym (constancy_as cs ds r e t1 t a.2)) ∙ h1)
  constants_no_offence _ _ _ (behind_constant env middle x es t q o h0 h1 h2) _ _ _ f (more_constants env1 middle1 after1 x1 es1 t1 o1 n1 ns1 k0 k1 k2 k3) =
      let a = types_same cs ds r e bc b _ _ _ _ _ _ k0 env middle t q f h0 in
      constants_no_offence _ _ _ h2 middle1 after1 ns1 a.0 k3

  pub offence_no_constants : (j0 : Env) (j1 : List Expr) (j2 : Offence) → ConstantsOffend cs j0 j1 j2 → (i0 i2 : Env) (i3 : List (Option ℕ)) → i0 ≡ env_as r j0 → ConstantsAre ds i0 j1 i2 i3 → ⊥
  offence_no_constants _ _ _ (in_constant env x es o h0) _ _ _ f (more_constants env1 middle1 after1 x1 es1 t1 o1 n1 ns1 k0 k1 k2 k3) = offence_no_type cs ds r e bc b _ _ _ _ h0 env1 middle1 t1 o1 f k0
  offence_no_constants _ _ _ (constant_divides env middle x es t q p h0 h1) _ _ _ f (more_constants env1 middle1 after1 x1 es1 t1 o1 n1 ns1 k0 k1 k2 k3) =
      let a = types_same cs ds r e bc b _ _ _ _ _ _ h0 env1 middle1 t1 o1 f k0 in
      none_some (sym k1 ∙ ap divides (constancy_as cs ds r e t t1 a.2) ∙ h1)
  offence_no_constants _ _ _ (behind_constant env middle x es t q o h0 h1 h2) _ _ _ f (more_constants env1 middle1 after1 x1 es1 t1 o1 n1 ns1 k0 k1 k2 k3) =
      let a = types_same cs ds r e bc b _ _ _ _ _ _ h0 env1 middle1 t1 o1 f k0 in
      offence_no_constants _ _ _ h2 middle1 after1 ns1 a.0 k3

  pub constants_offences_one : (j0 : Env) (j1 : List Expr) (j2 : Offence) → ConstantsOffend cs j0 j1 j2 → (i0 : Env) (p : Offence) → i0 ≡ env_as r j0 → ConstantsOffend ds i0 j1 p → p ≡ j2
  constants_offences_one _ _ _ (in_constant env x es o h0) _ _ f (in_constant env1 x1 es1 o1 k0) = offences_one cs ds r e bc b _ _ _ _ h0 env1 o1 f k0
  constants_offences_one _ _ _ (in_constant env x es o h0) _ _ f (constant_divides env1 middle1 x1 es1 t1 q1 p1 k0 k1) = absurd (offence_no_type cs ds r e bc b _ _ _ _ h0 env1 middle1 t1 q1 f k0)
  constants_offences_one _ _ _ (in_constant env x es o h0) _ _ f (behind_constant env1 middle1 x1 es1 t1 q1 o1 k0 k1 k2) = absurd (offence_no_type cs ds r e bc b _ _ _ _ h0 env1 middle1 t1 q1 f k0)
  constants_offences_one _ _ _ (constant_divides env middle x es t q p h0 h1) _ _ f (in_constant env1 x1 es1 o1 k0) = absurd (typed_no_offence cs ds r e bc b _ _ _ _ k0 env middle t q f h0)
  constants_offences_one _ _ _ (constant_divides env middle x es t q p h0 h1) _ _ f (constant_divides env1 middle1 x1 es1 t1 q1 p1 k0 k1) =
      let a = types_same cs ds r e bc b _ _ _ _ _ _ h0 env1 middle1 t1 q1 f k0 in
      ap (at 334) (some_same p1 p (sym k1 ∙ ap divides (constancy_as cs ds r e t t1 a.2) ∙ h1))
  constants_offences_one _ _ _ (constant_divides env middle x es t q p h0 h1) _ _ f (behind_constant env1 middle1 x1 es1 t1 q1 o1 k0 k1 k2) =
      let a = types_same cs ds r e bc b _ _ _ _ _ _ h0 env1 middle1 t1 q1 f k0 in
      absurd (none_some (sym k1 ∙ ap divides (constancy_as cs ds r e t t1 a.2) ∙ h1))
  constants_offences_one _ _ _ (behind_constant env middle x es t q o h0 h1 h2) _ _ f (in_constant env1 x1 es1 o1 k0) = absurd (typed_no_offence cs ds r e bc b _ _ _ _ k0 env middle t q f h0)
  constants_offences_one _ _ _ (behind_constant env middle x es t q o h0 h1 h2) _ _ f (constant_divides env1 middle1 x1 es1 t1 q1 p1 k0 k1) =
      let a = types_same cs ds r e bc b _ _ _ _ _ _ h0 env1 middle1 t1 q1 f k0 in
      absurd (none_some (sym h1 ∙ ap divides (sym (constancy_as cs ds r e t t1 a.2)) ∙ k1))
  constants_offences_one _ _ _ (behind_constant env middle x es t q o h0 h1 h2) _ _ f (behind_constant env1 middle1 x1 es1 t1 q1 o1 k0 k1 k2) =
      constants_offences_one _ _ _ h2 middle1 o1 (types_same cs ds r e bc b _ _ _ _ _ _ h0 env1 middle1 t1 q1 f k0).0 k2

  -- ---- sizes

  pub sizes_same : (i0 : Env) (i1 : Bool) (i2 : List FWord) (i3 : Env) (i4 : Option (List ℕ)) → SizesAre cs i0 i1 i2 i3 i4 → (j0 j3 : Env) (j4 : Option (List ℕ)) → j0 ≡ env_as r i0 → SizesAre ds j0 i1 i2 j3 j4 → (j3 ≡ env_as r i3) × (j4 ≡ i4)
  sizes_same _ _ _ _ _ (no_word env given) _ _ _ f (no_word env2 given2) = (f, refl)
  sizes_same _ _ _ _ _ (other_word env after given w ws size h0 h1) _ _ _ f (other_word env2 after2 given2 w2 ws2 size2 k0 k1) = sizes_same _ _ _ _ _ h1 env2 after2 size2 f k1
  sizes_same _ _ _ _ _ (other_word env after given w ws size h0 h1) _ _ _ f (required env2 middle2 after2 given2 place2 args2 ws2 ns2 k0 k1 k2) = absurd (true≢false h0)
  sizes_same _ _ _ _ _ (required env middle after given place args ws ns h0 h1 h2) _ _ _ f (other_word env2 after2 given2 w2 ws2 size2 k0 k1) = absurd (true≢false k0)
  sizes_same _ _ _ _ _ (required env middle after given place args ws ns h0 h1 h2) _ _ _ f (required env2 middle2 after2 given2 place2 args2 ws2 ns2 k0 k1 k2) =
      let a = constants_same _ _ _ _ h0 env2 middle2 ns2 f k0 in
      let s = sizes_same _ _ _ _ _ h2 middle2 after2 None a.0 k2 in
      (s.0, ap (λ z. Some (size_of z)) a.1)

  pub sizes_no_offence : (j0 : Env) (j1 : Bool) (j2 : List FWord) (j3 : Offence) → SizesOffend ds j0 j1 j2 j3 → (i0 i3 : Env) (i4 : Option (List ℕ)) → j0 ≡ env_as r i0 → SizesAre cs i0 j1 j2 i3 i4 → ⊥
  sizes_no_offence _ _ _ _ (in_arguments env given place args ws o h0) _ _ _ f (other_word env1 after1 given1 w1 ws1 size1 k0 k1) = true≢false k0
  sizes_no_offence _ _ _ _ (in_arguments env given place args ws o h0) _ _ _ f (required env1 middle1 after1 given1 place1 args1 ws1 ns1 k0 k1 k2) = constants_no_offence _ _ _ h0 env1 middle1 ns1 f k0
  sizes_no_offence _ _ _ _ (no_size env middle given place args ws ns code h0 h1) _ _ _ f (other_word env1 after1 given1 w1 ws1 size1 k0 k1) = true≢false k0
  sizes_no_offence _ _ _ _ (no_size env middle given place args ws ns code h0 h1) _ _ _ f (required env1 middle1 after1 given1 place1 args1 ws1 ns1 k0 k1 k2) =
      let a = constants_same _ _ _ _ k0 env middle ns f h0 in
      none_some (sym k1 ∙ ap (λ z. first_broken (size_tests given z)) (sym a.1) ∙ h1)
  sizes_no_offence _ _ _ _ (behind_other env given w ws o h0 h1) _ _ _ f (other_word env1 after1 given1 w1 ws1 size1 k0 k1) = sizes_no_offence _ _ _ _ h1 env1 after1 size1 f k1
  sizes_no_offence _ _ _ _ (behind_other env given w ws o h0 h1) _ _ _ f (required env1 middle1 after1 given1 place1 args1 ws1 ns1 k0 k1 k2) = true≢false h0
  sizes_no_offence _ _ _ _ (behind_required env middle given place args ws ns o h0 h1 h2) _ _ _ f (other_word env1 after1 given1 w1 ws1 size1 k0 k1) = true≢false k0
  sizes_no_offence _ _ _ _ (behind_required env middle given place args ws ns o h0 h1 h2) _ _ _ f (required env1 middle1 after1 given1 place1 args1 ws1 ns1 k0 k1 k2) =
      let a = constants_same _ _ _ _ k0 env middle ns f h0 in
      sizes_no_offence _ _ _ _ h2 middle1 after1 None a.0 k2

  pub offence_no_sizes : (j0 : Env) (j1 : Bool) (j2 : List FWord) (j3 : Offence) → SizesOffend cs j0 j1 j2 j3 → (i0 i3 : Env) (i4 : Option (List ℕ)) → i0 ≡ env_as r j0 → SizesAre ds i0 j1 j2 i3 i4 → ⊥
  offence_no_sizes _ _ _ _ (in_arguments env given place args ws o h0) _ _ _ f (other_word env1 after1 given1 w1 ws1 size1 k0 k1) = true≢false k0
  offence_no_sizes _ _ _ _ (in_arguments env given place args ws o h0) _ _ _ f (required env1 middle1 after1 given1 place1 args1 ws1 ns1 k0 k1 k2) = offence_no_constants _ _ _ h0 env1 middle1 ns1 f k0
  offence_no_sizes _ _ _ _ (no_size env middle given place args ws ns code h0 h1) _ _ _ f (other_word env1 after1 given1 w1 ws1 size1 k0 k1) = true≢false k0
  offence_no_sizes _ _ _ _ (no_size env middle given place args ws ns code h0 h1) _ _ _ f (required env1 middle1 after1 given1 place1 args1 ws1 ns1 k0 k1 k2) =
      let a = constants_same _ _ _ _ h0 env1 middle1 ns1 f k0 in
      none_some (sym k1 ∙ ap (λ z. first_broken (size_tests given z)) a.1 ∙ h1)
  offence_no_sizes _ _ _ _ (behind_other env given w ws o h0 h1) _ _ _ f (other_word env1 after1 given1 w1 ws1 size1 k0 k1) = offence_no_sizes _ _ _ _ h1 env1 after1 size1 f k1
  offence_no_sizes _ _ _ _ (behind_other env given w ws o h0 h1) _ _ _ f (required env1 middle1 after1 given1 place1 args1 ws1 ns1 k0 k1 k2) = true≢false h0
  offence_no_sizes _ _ _ _ (behind_required env middle given place args ws ns o h0 h1 h2) _ _ _ f (other_word env1 after1 given1 w1 ws1 size1 k0 k1) = true≢false k0
  offence_no_sizes _ _ _ _ (behind_required env middle given place args ws ns o h0 h1 h2) _ _ _ f (required env1 middle1 after1 given1 place1 args1 ws1 ns1 k0 k1 k2) =
      let a = constants_same _ _ _ _ h0 env1 middle1 ns1 f k0 in
      offence_no_sizes _ _ _ _ h2 middle1 after1 None a.0 k2

  pub sizes_offences_one : (j0 : Env) (j1 : Bool) (j2 : List FWord) (j3 : Offence) → SizesOffend cs j0 j1 j2 j3 → (i0 : Env) (p : Offence) → i0 ≡ env_as r j0 → SizesOffend ds i0 j1 j2 p → p ≡ j3
  sizes_offences_one _ _ _ _ (in_arguments env given place args ws o h0) _ _ f (in_arguments env1 given1 place1 args1 ws1 o1 k0) = constants_offences_one _ _ _ h0 env1 o1 f k0
  sizes_offences_one _ _ _ _ (in_arguments env given place args ws o h0) _ _ f (no_size env1 middle1 given1 place1 args1 ws1 ns1 code1 k0 k1) = absurd (offence_no_constants _ _ _ h0 env1 middle1 ns1 f k0)
  sizes_offences_one _ _ _ _ (in_arguments env given place args ws o h0) _ _ f (behind_other env1 given1 w1 ws1 o1 k0 k1) = absurd (true≢false k0)
  sizes_offences_one _ _ _ _ (in_arguments env given place args ws o h0) _ _ f (behind_required env1 middle1 given1 place1 args1 ws1 ns1 o1 k0 k1 k2) = absurd (offence_no_constants _ _ _ h0 env1 middle1 ns1 f k0)
  sizes_offences_one _ _ _ _ (no_size env middle given place args ws ns code h0 h1) _ _ f (in_arguments env1 given1 place1 args1 ws1 o1 k0) = absurd (constants_no_offence _ _ _ k0 env middle ns f h0)
  sizes_offences_one _ _ _ _ (no_size env middle given place args ws ns code h0 h1) _ _ f (no_size env1 middle1 given1 place1 args1 ws1 ns1 code1 k0 k1) =
      let a = constants_same _ _ _ _ h0 env1 middle1 ns1 f k0 in
      ap (λ z. at z place) (some_same code1 code (sym k1 ∙ ap (λ z. first_broken (size_tests given z)) a.1 ∙ h1))
  sizes_offences_one _ _ _ _ (no_size env middle given place args ws ns code h0 h1) _ _ f (behind_other env1 given1 w1 ws1 o1 k0 k1) = absurd (true≢false k0)
  sizes_offences_one _ _ _ _ (no_size env middle given place args ws ns code h0 h1) _ _ f (behind_required env1 middle1 given1 place1 args1 ws1 ns1 o1 k0 k1 k2) =
      let a = constants_same _ _ _ _ h0 env1 middle1 ns1 f k0 in
      absurd (none_some (sym k1 ∙ ap (λ z. first_broken (size_tests given z)) a.1 ∙ h1))
  sizes_offences_one _ _ _ _ (behind_other env given w ws o h0 h1) _ _ f (in_arguments env1 given1 place1 args1 ws1 o1 k0) = absurd (true≢false h0)
  sizes_offences_one _ _ _ _ (behind_other env given w ws o h0 h1) _ _ f (no_size env1 middle1 given1 place1 args1 ws1 ns1 code1 k0 k1) = absurd (true≢false h0)
  sizes_offences_one _ _ _ _ (behind_other env given w ws o h0 h1) _ _ f (behind_other env1 given1 w1 ws1 o1 k0 k1) = sizes_offences_one _ _ _ _ h1 env1 o1 f k1
  sizes_offences_one _ _ _ _ (behind_other env given w ws o h0 h1) _ _ f (behind_required env1 middle1 given1 place1 args1 ws1 ns1 o1 k0 k1 k2) = absurd (true≢false h0)
  sizes_offences_one _ _ _ _ (behind_required env middle given place args ws ns o h0 h1 h2) _ _ f (in_arguments env1 given1 place1 args1 ws1 o1 k0) = absurd (constants_no_offence _ _ _ k0 env middle ns f h0)
  sizes_offences_one _ _ _ _ (behind_required env middle given place args ws ns o h0 h1 h2) _ _ f (no_size env1 middle1 given1 place1 args1 ws1 ns1 code1 k0 k1) =
      let a = constants_same _ _ _ _ h0 env1 middle1 ns1 f k0 in
      absurd (none_some (sym h1 ∙ ap (λ z. first_broken (size_tests given z)) (sym a.1) ∙ k1))
  sizes_offences_one _ _ _ _ (behind_required env middle given place args ws ns o h0 h1 h2) _ _ f (behind_other env1 given1 w1 ws1 o1 k0 k1) = absurd (true≢false k0)
  sizes_offences_one _ _ _ _ (behind_required env middle given place args ws ns o h0 h1 h2) _ _ f (behind_required env1 middle1 given1 place1 args1 ws1 ns1 o1 k0 k1 k2) =
      let a = constants_same _ _ _ _ h0 env1 middle1 ns1 f k0 in
      sizes_offences_one _ _ _ _ h2 middle1 o1 a.0 k2
