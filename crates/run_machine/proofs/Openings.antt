-- The machine before its first step.
use Rattle.std.proofs.Common.{◌≡◌, ℕ, zero, suc, ◌+◌, ◌<◌, List, [], ◌∷◌, ◌++◌, refl, sym, ap, ◌∙◌, length, get_or, map, arith}
use Rattle.std.specs.Prelude.{replicate}
use Rattle.std.proofs.lemmas.List.{length-map}
use Rattle.launch_text.specs.WorkItems.{volume}
use Rattle.clv_worlds.specs.Worlds.{opening}
use Rattle.spv_module.specs.declared.module.Inst.{Inst}
use Rattle.spv_meaning.specs.Start.{Start}
use Rattle.spv_meaning.specs.Invocation.{Run, run, over, place_after}
use Rattle.run_machine.specs.declared.invocation.Run.{Run as PlainRun}
use Rattle.run_machine.specs.Views.{run_by}
use Rattle.run_machine.specs.Machines.{Stand}

replicate_more : {A : Type 0} (n : ℕ) (x : A) → replicate n x ++ x ∷ [] ≡ replicate (n + 1) x
replicate_more zero x = refl
replicate_more (suc n) x = ap (λ l. x ∷ l) (replicate_more n x) ∙ ap (λ k. replicate k x) (let q : suc (n + 1) ≡ suc n + 1 = omega arith in q)

map_push : (runs : List PlainRun) (r : PlainRun) → map run_by (runs ++ r ∷ []) ≡ map run_by runs ++ run_by r ∷ []
map_push [] r = refl
map_push (x ∷ runs) r = ap (λ l. run_by x ∷ l) (map_push runs r)

pub firsts_more : (runs : List PlainRun) (r : PlainRun) (n : ℕ) (x : Run) → map run_by runs ≡ replicate n x → run_by r ≡ x → map run_by (runs ++ r ∷ []) ≡ replicate (n + 1) x
firsts_more runs r n x e f = map_push runs r ∙ ap (λ l. l ++ run_by r ∷ []) e ∙ ap (λ y. replicate n x ++ y ∷ []) f ∙ replicate_more n x

pub ruleset firsts = (firsts_more)

length_replicate : {A : Type 0} (n : ℕ) (x : A) → length (replicate n x) ≡ n
length_replicate zero x = refl
length_replicate (suc n) x = ap suc (length_replicate n x)

get_replicate : {A : Type 0} (n i : ℕ) (x d : A) → i < n → get_or (replicate n x) i d ≡ x
get_replicate zero i x d h = absurd (omega (arith, h))
get_replicate (suc n) zero x d h = refl
get_replicate (suc n) (suc i) x d h = get_replicate n i x d (omega (arith, h))

pub firsts_length : (runs : List PlainRun) (n : ℕ) (x : Run) → map run_by runs ≡ replicate n x → length runs ≡ n
firsts_length runs n x e = sym (length-map runs run_by) ∙ ap length e ∙ length_replicate n x

pub stand_first : (body : List Inst) (start : Start) (memory : List (List ℕ)) (runs : List Run) → memory ≡ start.buffers → runs ≡ replicate (volume start.global) (run start.function (place_after body start.function) [] []) → Stand body start memory runs (opening start.buffers)
stand_first body start memory runs e f = record {
  buffers = e;
  count = ap length f ∙ length_replicate (volume start.global) _;
  each = λ i low. ap (λ l. get_or l i over) f ∙ get_replicate (volume start.global) i _ over low;
}

pub ruleset opened = (firsts_length, stand_first)
