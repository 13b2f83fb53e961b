-- The nodes that one rule makes in two tables of operands that are one but for the numbers of types: they are one but for those too.
use Rattle.std.proofs.Common.{◌≡◌, ◌≢◌, ℕ, ◌%◌, ◌^◌, List, [], ◌∷◌, map, refl, sym, ap, ◌∙◌, subst, ◌⊎◌, inl, inr}
use Rattle.clv_place.specs.declared.place.Place.{Place}
use Rattle.cl_types.specs.declared.types.ClType.{ClType}
use Rattle.cl_types.specs.declared.types.TypeId.{TypeId}
use Rattle.cl_builtins.specs.declared.kind.Gentype.{Gentype}
use Rattle.cl_tree.specs.declared.shape.Shape.TheVariants as shape
use Rattle.cl_tree.specs.declared.expression.TExpr.{TExpr}
use Rattle.cl_tree.specs.declared.expression.TNode.TheVariants as tnode
use Rattle.cl_tree.specs.declared.expression.TNode.TheViews.{out-TExpr}
use Rattle.cl_rules.specs.declared.rule.Head.TheVariants as head
use Rattle.cl_rules.specs.declared.rule.Made.{Made}
use Rattle.cl_rules.specs.declared.rule.Operand.{Operand}
use Rattle.cl_rules.specs.declared.rule.Want.{Want}
use Rattle.cl_rules.specs.declared.rule.Want.TheVariants as want
use Rattle.cl_make.specs.Building.{IsTyped, IsNode, IsConverted, unasked, fitting, converted, AreConverted, none as no_operand, more as more_operands, operand_of, value_of, IsMade, IsNumber}
use Rattle.cl_make.specs.Wanted.{IsWanted}
use Rattle.cl_renaming.specs.Renaming.{type_id, want_as, operand_as, made_as, IsRenaming, AreTypes, IsOneType, AreOneType, AsksOneType}
use Rattle.cl_renaming.specs.Trees.{IsTreeAs, number, node, AreTreesAs, none, more}
use Rattle.cl_renaming.proofs.Shapes.{shape_of_as}
use Rattle.cl_renaming.proofs.Wants.{wanted_own, wanted_one}

-- ---- roots

pub root_as : (r : ℕ → ℕ) (t u : TExpr) → IsTreeAs r t u → (out-TExpr u).ty ≡ type_id r (out-TExpr t).ty
root_as r t u (number x y ty place n m g h v w) = h.has ∙ ap (type_id r) (sym g.has)
root_as r t u (node x y ty place k ts us g h s) = h.is.has ∙ ap (type_id r) (sym g.is.has)

pub place_as : (r : ℕ → ℕ) (t u : TExpr) → IsTreeAs r t u → (out-TExpr u).place ≡ (out-TExpr t).place
place_as r t u (number x y ty place n m g h v w) = h.at ∙ sym g.at
place_as r t u (node x y ty place k ts us g h s) = h.is.at ∙ sym g.is.at

-- ---- operands behind their conversions

-- an operand that is converted, or stays
record IsChanged (cs : List ClType) (w : Want) (t u : TExpr) : Type 0 where
  ty : TypeId
  wanted : IsWanted cs w ty
  other : (out-TExpr t).ty ≢ ty
  is : IsNode u ty (out-TExpr t).place head.Convert (t ∷ [])

abbrev Converts : List ClType → Want → TExpr → TExpr → Type 0
Converts cs w t u = ((w ≡ want.Own) × (t ≡ u)) ⊎ ((IsWanted cs w (out-TExpr t).ty × (t ≡ u)) ⊎ IsChanged cs w t u)

how_converted : (cs : List ClType) (w : Want) (t u : TExpr) → IsConverted cs w t u → Converts cs w t u
how_converted cs w t u (unasked v) = inl (refl, refl)
how_converted cs w t u (fitting v x h) = inr (inl (h, refl))
how_converted cs w t u (converted v ty x y h n i) = inr (inr (record { ty = ty; wanted = h; other = n; is = i }))

pub own_as : (r : ℕ → ℕ) (w : Want) → want_as r w ≡ want.Own → w ≡ want.Own
own_as r want.Own e = refl
own_as r (want.Type t) e = cc
own_as r (want.Of s) e = cc

module _ (cs ds : List ClType) (r : ℕ → ℕ) (e : IsRenaming cs ds r) (b : AreTypes ds) where
  own_wanted : {A : Type 0} (ts : List ClType) (w : Want) (t : TypeId) → w ≡ want.Own → IsWanted ts w t → A
  own_wanted ts w t f h = absurd (wanted_own ts w t f h)

  change_as : (w : Want) (t t2 u u2 : TExpr) → IsOneType w → IsTreeAs r t u → Converts cs w t t2 → Converts ds (want_as r w) u u2 → IsTreeAs r t2 u2
  change_as w t t2 u u2 n s (inl x) (inl y) = subst (λ z. IsTreeAs r z u2) x.1 (subst (IsTreeAs r t) y.1 s)
  change_as w t t2 u u2 n s (inl x) (inr (inl y)) = own_wanted ds (want_as r w) (out-TExpr u).ty (ap (want_as r) x.0) y.0
  change_as w t t2 u u2 n s (inl x) (inr (inr y)) = own_wanted ds (want_as r w) y.ty (ap (want_as r) x.0) y.wanted
  change_as w t t2 u u2 n s (inr (inl x)) (inl y) = own_wanted cs w (out-TExpr t).ty (own_as r w y.0) x.0
  change_as w t t2 u u2 n s (inr (inl x)) (inr (inl y)) = subst (λ z. IsTreeAs r z u2) x.1 (subst (IsTreeAs r t) y.1 s)
  change_as w t t2 u u2 n s (inr (inl x)) (inr (inr y)) = absurd (y.other (root_as r t u s ∙ sym (wanted_one cs ds r e b w (out-TExpr t).ty y.ty n x.0 y.wanted)))
  change_as w t t2 u u2 n s (inr (inr x)) (inl y) = own_wanted cs w x.ty (own_as r w y.0) x.wanted
  change_as w t t2 u u2 n s (inr (inr x)) (inr (inl y)) =
      let f : type_id r x.ty ≡ type_id r (out-TExpr t).ty = sym (wanted_one cs ds r e b w x.ty (out-TExpr u).ty n x.wanted y.0) ∙ root_as r t u s in
      let g = e.differ x.ty.0 (out-TExpr t).ty.0 (ap (λ z. z.0) f) in
      absurd (x.other (λ i. record { 0 = sym g i }))
  change_as w t t2 u u2 n s (inr (inr x)) (inr (inr y)) =
      let f = wanted_one cs ds r e b w x.ty y.ty n x.wanted y.wanted in
      let k : IsNode u2 (type_id r x.ty) (out-TExpr t).place head.Convert (u ∷ []) = subst (λ p. IsNode u2 (type_id r x.ty) p head.Convert (u ∷ [])) (place_as r t u s) (subst (λ z. IsNode u2 z (out-TExpr u).place head.Convert (u ∷ [])) f y.is) in
      node t2 u2 x.ty (out-TExpr t).place head.Convert (t ∷ []) (u ∷ []) x.is k (more t u [] [] s none)

  pub converted_as : (w v : Want) (t t2 u u2 : TExpr) → v ≡ want_as r w → IsOneType w → IsTreeAs r t u → IsConverted cs w t t2 → IsConverted ds v u u2 → IsTreeAs r t2 u2
  converted_as w v t t2 u u2 f n s x y = change_as w t t2 u u2 n s (how_converted cs w t t2 x) (subst (λ z. Converts ds z u u2) f (how_converted ds v u u2 y))

  pub all_converted_as : (ws vs : List Want) (ts ts2 us us2 : List TExpr) → vs ≡ map (want_as r) ws → AreOneType ws → AreTreesAs r ts us → AreConverted cs ws ts ts2 → AreConverted ds vs us us2 → AreTreesAs r ts2 us2
  all_converted_as ws vs ts ts2 us us2 f n s no_operand no_operand = none
  all_converted_as ws vs ts ts2 us us2 f n (more t u xs ys a s) (more_operands w ws2 t2 t3 ts3 ts4 g x) (more_operands v vs2 u2 u3 us3 us4 h y) =
      more t3 u3 ts4 us4 (converted_as w v t t3 u u3 (let k : v ≡ want_as r w = cc in k) n.0 a g h) (all_converted_as ws2 vs2 xs ts4 ys us4 (let k : vs2 ≡ map (want_as r) ws2 = cc in k) n.1 s x y)
  all_converted_as ws vs ts ts2 us us2 f n s (more_operands w ws2 t2 t3 ts3 ts4 g x) no_operand = absurd (let k : [] ≡ want_as r w ∷ map (want_as r) ws2 = f in cc)
  all_converted_as ws vs ts ts2 us us2 f n s no_operand (more_operands v vs2 u2 u3 us3 us4 h y) = absurd (let k : v ∷ vs2 ≡ [] = f in cc)

  -- ---- the node of a rule

  pub made_one : (m : Made) (place : Place) (ts us : List TExpr) (t u : TExpr) (o p : Operand) → AsksOneType m → AreTreesAs r ts us → IsMade cs m place ts t o → IsMade ds (made_as r m) place us u p → (p ≡ operand_as r o) × IsTreeAs r t u
  made_one m place ts us t u o p n s x y =
      let f = wanted_one cs ds r e b m.gives x.ty y.ty n.gives x.gives y.gives in
      let h = all_converted_as m.wants (map (want_as r) m.wants) ts x.operands us y.operands refl n.wants s x.converts y.converts in
      let k : IsNode u (type_id r x.ty) place m.head y.operands = subst (λ z. IsNode u z place m.head y.operands) f y.is in
      let q : operand_of ds (type_id r x.ty) (made_as r m) ≡ operand_as r (operand_of cs x.ty m) = ap (λ s. record (operand_as r (operand_of cs x.ty m)) { shape = s }) (shape_of_as cs ds r e x.ty) in
      (y.known ∙ ap (λ z. operand_of ds z (made_as r m)) f ∙ q ∙ ap (operand_as r) (sym x.known), node t u x.ty place m.head x.operands y.operands x.is k h)

  -- ---- numbers

  pub number_one : (g : Gentype) (n k : ℕ) (place : Place) (t u : TExpr) (o p : Operand) → k ≡ n → IsNumber cs g n place t o → IsNumber ds g k place u p → (p ≡ operand_as r o) × IsTreeAs r t u
  number_one g n k place t u o p f x y =
      let h = wanted_one cs ds r e b (want.Of (shape.Integers g)) x.ty y.ty refl x.gives y.gives in
      let v : value_of ds (type_id r x.ty) ≡ operand_as r (value_of cs x.ty) = ap (λ s. record (operand_as r (value_of cs x.ty)) { shape = s }) (shape_of_as cs ds r e x.ty) in (
        y.known ∙ ap (value_of ds) h ∙ v ∙ ap (operand_as r) (sym x.known),
        number t u x.ty place x.bits y.bits x.is (subst (λ z. IsTyped u z place (tnode.Number y.bits)) h y.is) (y.width ∙ sym x.width) (y.pattern ∙ ap (λ m. m % 2 ^ g.bits) f ∙ sym x.pattern),
      )
