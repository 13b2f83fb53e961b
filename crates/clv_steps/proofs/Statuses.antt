-- What a status is not, and what matches it.
use Rattle.std.proofs.Common.{◌≡◌, ℕ, List, [], ◌∷◌, ◌++◌, refl, sym, ◌∙◌, subst}
use Rattle.clv_steps.specs.Machines.{Status, Runs, Asks, Ends, Fails, told_by, IsLive, in_words}
use Rattle.clv_steps.specs.Runs.{Matches}

pub asks_same : {E : Type 0} (s : Status E) (e e2 : E) → s ≡ Asks e → s ≡ Asks e2 → e ≡ e2
asks_same s e e2 h k = let c : Asks e ≡ Asks e2 = sym h ∙ k in cc

pub asks_ends : {E : Type 0} (s : Status E) (e : E) → s ≡ Asks e → s ≡ Ends → ⊥
asks_ends s e h k = let c : Asks e ≡ Ends = sym h ∙ k in cc

pub asks_fails : {E : Type 0} (s : Status E) (e : E) → s ≡ Asks e → s ≡ Fails → ⊥
asks_fails s e h k = let c : Asks e ≡ Fails = sym h ∙ k in cc

pub matches_asks : {E F : Type 0} (word : E → F) (s : Status E) (t : Status F) (f : F) → t ≡ Asks f → Matches word s t → (e : E) × (s ≡ Asks e) × (f ≡ word e)
matches_asks word s t f h m = subst (Matches word s) h m

pub matches_fails : {E F : Type 0} (word : E → F) (s : Status E) (t : Status F) → t ≡ Fails → Matches word s t → ⊥
matches_fails word s t h m = subst (Matches word s) h m

pub matches_ends : {E F : Type 0} (word : E → F) (s : Status E) (t : Status F) → t ≡ Ends → Matches word s t → s ≡ Ends
matches_ends word s t h m = subst (Matches word s) h m

pub words_none : {E F : Type 0} (word : E → F) (xs : List (E × ℕ)) → in_words word xs ≡ [] → xs ≡ []
words_none word [] e = refl
words_none word (x ∷ xs) e = cc

-- a live step that asks nothing is the item's own
pub runs_of : {E : Type 0} (s : Status E) (x : ℕ) (xs : List (E × ℕ)) → IsLive s → told_by s x ++ xs ≡ [] → s ≡ Runs
runs_of Runs x xs l e = refl
runs_of (Asks v) x xs l e = absurd (let f : (v, x) ∷ xs ≡ [] = e in cc)
runs_of Ends x xs l e = absurd l
runs_of Fails x xs l e = absurd l
