-- How types lie in memory by other numbers: alike.
use Rattle.std.proofs.Common.{◌≡◌, ℕ, zero, suc, ◌<◌, ◌≤◌, List, [], ◌∷◌, length, map, refl, sym, ap, ◌∙◌, arith, Option, Some, None, slice_get}
use Rattle.cl_types.specs.declared.types.ClType.{ClType}
use Rattle.cl_types.specs.declared.types.ClType.TheVariants as ty
use Rattle.cl_types.specs.declared.types.Member.{Member}
use Rattle.cl_types.specs.Layout.{TypeTree, Void, Vector, Array, Struct, more}
use Rattle.cl_types.specs.Table.{tree_at, trees_at, tree_from, trees, tree_of, AreBuilt}
use Rattle.cl_types.proofs.Rows.{tree_found, trees_length, AreEarlier, vector_earlier, array_earlier, members_earlier}
use Rattle.cl_make.proofs.Growing.{none_some}
use Rattle.cl_renaming.specs.Renaming.{member, cl_type, IsRenaming}

-- ---- no type

tree_past : (ts : List TypeTree) (i : ℕ) → length ts ≤ i → tree_at ts i ≡ Void
tree_past [] i l = refl
tree_past (t ∷ ts) zero l = absurd (omega arith)
tree_past (t ∷ ts) (suc i) l = tree_past ts i (omega arith)

get_past : {A : Type 0} (xs : List A) (i : ℕ) → slice_get xs i ≡ None → length xs ≤ i
get_past [] i e = omega arith
get_past (x ∷ xs) zero e = absurd (none_some (sym e))
get_past (x ∷ xs) (suc i) e = let h = get_past xs i e in omega arith

pub tree_of_none : (cs : List ClType) (i : ℕ) → slice_get cs i ≡ None → tree_of cs i ≡ Void
tree_of_none cs i e = tree_past (trees cs) i (let h = get_past cs i e in let l = trees_length cs in omega arith)

-- ---- types of two tables

module _ (cs ds : List ClType) (r : ℕ → ℕ) (b : AreBuilt [] cs) (g : AreBuilt [] ds) (e : IsRenaming cs ds r) where
  members_alike : (i : ℕ) (ms : List Member) → ((j : ℕ) → j < i → tree_of ds (r j) ≡ tree_of cs j) → AreEarlier cs i ms → trees_at (trees ds) (map (member r) ms) ≡ trees_at (trees cs) ms
  members_alike i [] h a = refl
  members_alike i (m ∷ ms) h a = λ j. more (h m.ty.0 a.0.earlier j) (members_alike i ms h a.1 j)

  type_alike : (i : ℕ) (c : ClType) → slice_get cs i ≡ Some c → ((j : ℕ) → j < i → tree_of ds (r j) ≡ tree_of cs j) → tree_from (trees ds) (cl_type r c) ≡ tree_from (trees cs) c
  type_alike i ty.Void f h = refl
  type_alike i ty.Bool f h = refl
  type_alike i (ty.Int bits signed) f h = refl
  type_alike i (ty.Vector elem n) f h = ap (λ t. Vector t n) (h elem.0 (vector_earlier cs i elem n b f).earlier)
  type_alike i (ty.Array elem n) f h = ap (λ t. Array t n) (h elem.0 (array_earlier cs i elem n b f).earlier)
  type_alike i (ty.Struct name ms) f h = ap Struct (members_alike i ms h (members_earlier cs i name ms b f))
  type_alike i (ty.Pointer space to readonly restricted) f h = refl

  at_alike : (i : ℕ) (o : Option ClType) → slice_get cs i ≡ o → ((j : ℕ) → j < i → tree_of ds (r j) ≡ tree_of cs j) → tree_of ds (r i) ≡ tree_of cs i
  at_alike i None f h = tree_of_none ds (r i) (e.lacks i f) ∙ sym (tree_of_none cs i f)
  at_alike i (Some c) f h = tree_found ds (r i) (cl_type r c) g (e.has i c f) ∙ type_alike i c f h ∙ sym (tree_found cs i c b f)

  below_alike : (n i : ℕ) → i < n → tree_of ds (r i) ≡ tree_of cs i
  below_alike zero i l = absurd (omega arith)
  below_alike (suc n) i l = at_alike i (slice_get cs i) refl (λ j k. below_alike n j (omega arith))

  -- a type of the table, and one that may be added to it
  pub tree_of_as : (i : ℕ) → tree_of ds (r i) ≡ tree_of cs i
  tree_of_as i = below_alike (suc i) i (omega arith)

  pub trees_at_as : (ms : List Member) → trees_at (trees ds) (map (member r) ms) ≡ trees_at (trees cs) ms
  trees_at_as [] = refl
  trees_at_as (m ∷ ms) = λ j. more (tree_of_as m.ty.0 j) (trees_at_as ms j)

  pub tree_from_as : (c : ClType) → tree_from (trees ds) (cl_type r c) ≡ tree_from (trees cs) c
  tree_from_as ty.Void = refl
  tree_from_as ty.Bool = refl
  tree_from_as (ty.Int bits signed) = refl
  tree_from_as (ty.Vector elem n) = ap (λ t. Vector t n) (tree_of_as elem.0)
  tree_from_as (ty.Array elem n) = ap (λ t. Array t n) (tree_of_as elem.0)
  tree_from_as (ty.Struct name ms) = ap Struct (trees_at_as ms)
  tree_from_as (ty.Pointer space to readonly restricted) = refl
