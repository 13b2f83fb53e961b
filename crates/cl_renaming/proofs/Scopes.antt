-- What names mean where the types of declarations have other numbers: the same, by those numbers.
use Rattle.std.proofs.Common.{◌≡◌, ℕ, List, [], ◌∷◌, ◌++◌, length, map, refl, sym, ap, ◌∙◌, nat_lt, Bool, true, false, Option, Some, None}
use Rattle.std.specs.Prelude.{bytes_eq, is_some}
use Rattle.std.specs.Option.{option_map}
use Rattle.std.proofs.lemmas.List.{length-map, map-append}
use Rattle.cl_scope.specs.declared.scope.Declared.{Declared}
use Rattle.cl_scope.specs.declared.scope.Signature.{Signature}
use Rattle.cl_scope.specs.Names.{Env, entered, left_behind, inner_at, outer_at, left_at, is_called, declare, newest, find, find_tag, function_in, find_function, and_function, declared_function, is_declared, is_tagged}
use Rattle.cl_renaming.specs.Renaming.{declared_as, signature_as, env_as}
use Rattle.cl_renaming.proofs.Operators.{if_as}

pub is_some_as : {A B : Type 0} (f : A → B) (o : Option A) → is_some (option_map f o) ≡ is_some o
is_some_as f None = refl
is_some_as f (Some x) = refl

module _ (r : ℕ → ℕ) where
  newest_as : (tag : Bool) (name : List ℕ) (ds : List Declared) → newest tag name (map (declared_as r) ds) ≡ option_map (declared_as r) (newest tag name ds)
  newest_as tag name [] = refl
  newest_as tag name (d ∷ ds) = if_as (option_map (declared_as r)) (is_called tag name d) (is_called tag name d) _ _ (Some d) _ refl refl (newest_as tag name ds)

  in_blocks : (tag : Bool) (name : List ℕ) (env : Env) → newest tag name (map (declared_as r) env.inner ++ map (declared_as r) env.outer) ≡ option_map (declared_as r) (newest tag name (env.inner ++ env.outer))
  in_blocks tag name env = ap (newest tag name) (sym (map-append (declared_as r) env.inner env.outer)) ∙ newest_as tag name (env.inner ++ env.outer)

  pub find_as : (env : Env) (name : List ℕ) → find (env_as r env) name ≡ option_map (declared_as r) (find env name)
  find_as env name = in_blocks false name env

  pub find_tag_as : (env : Env) (name : List ℕ) → find_tag (env_as r env) name ≡ option_map (declared_as r) (find_tag env name)
  find_tag_as env name = in_blocks true name env

  function_in_as : (name : List ℕ) (fs : List Signature) → function_in name (map (signature_as r) fs) ≡ option_map (signature_as r) (function_in name fs)
  function_in_as name [] = refl
  function_in_as name (f ∷ fs) = if_as (option_map (signature_as r)) (bytes_eq name f.name) (bytes_eq name f.name) _ _ (Some f) _ refl refl (function_in_as name fs)

  pub find_function_as : (env : Env) (name : List ℕ) → find_function (env_as r env) name ≡ option_map (signature_as r) (find_function env name)
  find_function_as env name = function_in_as name env.functions

  pub is_declared_in_as : (env : Env) (name : List ℕ) → is_declared (env_as r env) name ≡ is_declared env name
  is_declared_in_as env name = ap is_some (newest_as false name env.inner) ∙ is_some_as (declared_as r) (newest false name env.inner)

  pub is_tagged_as : (env : Env) (name : List ℕ) → is_tagged (env_as r env) name ≡ is_tagged env name
  is_tagged_as env name = ap is_some (newest_as true name env.inner) ∙ is_some_as (declared_as r) (newest true name env.inner)

  pub declare_as : (d : Declared) (env : Env) → declare (declared_as r d) (env_as r env) ≡ env_as r (declare d env)
  declare_as d env = refl

  pub entered_as : (env : Env) → entered (env_as r env) ≡ env_as r (entered env)
  entered_as env = λ i. record { outer = sym (map-append (declared_as r) env.inner env.outer) i; inner = []; functions = map (signature_as r) env.functions }

  pub left_behind_as : (env inside : Env) → left_behind (env_as r env) (env_as r inside) ≡ env_as r (left_behind env inside)
  left_behind_as env inside = refl

  and_function_as : (o : Option Signature) (f : Signature) (fs : List Signature) → and_function (option_map (signature_as r) o) (signature_as r f) (map (signature_as r) fs) ≡ map (signature_as r) (and_function o f fs)
  and_function_as None f fs = sym (map-append (signature_as r) fs (f ∷ []))
  and_function_as (Some own) f fs = refl

  pub declared_function_as : (f : Signature) (env : Env) → declared_function (signature_as r f) (env_as r env) ≡ env_as r (declared_function f env)
  declared_function_as f env =
      ap (λ fs. record (env_as r env) { functions = fs })
      (ap (λ o. and_function o (signature_as r f) (map (signature_as r) env.functions)) (find_function_as env f.name) ∙ and_function_as (find_function env f.name) f env.functions)

  inner_at_as : (mark : ℕ) (ds : List Declared) → inner_at mark (map (declared_as r) ds) ≡ map (declared_as r) (inner_at mark ds)
  inner_at_as mark [] = refl
  inner_at_as mark (d ∷ ds) = if_as (map (declared_as r)) _ (nat_lt (length ds) mark) _ _ [] (d ∷ inner_at mark ds) (λ i. nat_lt (length-map ds (declared_as r) i) mark) refl (ap (λ z. declared_as r d ∷ z) (inner_at_as mark ds))

  outer_at_as : (mark : ℕ) (ds : List Declared) → outer_at mark (map (declared_as r) ds) ≡ map (declared_as r) (outer_at mark ds)
  outer_at_as mark [] = refl
  outer_at_as mark (d ∷ ds) = if_as (map (declared_as r)) _ (nat_lt (length ds) mark) _ _ (d ∷ ds) (outer_at mark ds) (λ i. nat_lt (length-map ds (declared_as r) i) mark) refl (outer_at_as mark ds)

  pub left_at_as : (mark : ℕ) (inside : Env) → left_at mark (env_as r inside) ≡ env_as r (left_at mark inside)
  left_at_as mark inside = λ i. record { outer = outer_at_as mark inside.outer i; inner = inner_at_as mark inside.outer i; functions = map (signature_as r) inside.functions }
