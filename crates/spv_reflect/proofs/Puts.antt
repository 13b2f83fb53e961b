-- What is put behind instructions.
use Rattle.std.proofs.Common.{◌≡◌, List, [], ◌∷◌, ◌++◌, ap, ◌∙◌, append_assoc}
use Rattle.spv_module.specs.declared.module.Inst.{Inst}

pub two_put : (a b c : List Inst) (x y p q : Inst) → b ≡ a ++ p ∷ [] → c ≡ b ++ q ∷ [] → p ≡ x → q ≡ y → c ≡ a ++ x ∷ y ∷ []
two_put a b c x y p q e f g h =
    f ∙ ap (λ (is : List Inst). is ++ q ∷ []) e ∙ append_assoc a (p ∷ []) (q ∷ []) ∙ ap (λ (i : Inst). a ++ i ∷ q ∷ []) g ∙ ap (λ (i : Inst). a ++ x ∷ i ∷ []) h
