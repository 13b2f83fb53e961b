-- What an invocation of a kernel's module does, up to its write and from there to its end.
use Rattle.std.proofs.Common.{◌≡◌, ℕ, ◌+◌, ◌-◌, ◌*◌, ◌/◌, ◌≤◌, List, [], ◌∷◌, ◌++◌, length, Option, Some, true, cond, nat_lt, slice_get, refl, ap, ◌∙◌, arith}
use Rattle.clv_steps.specs.Machines.{Asks}
use Rattle.spv_module.specs.declared.module.Operand.TheVariants.{Id}
use Rattle.spv_module.specs.declared.op.TheConstants as op
use Rattle.clv_engine.specs.declared.form.Kernel.{Kernel}
use Rattle.clv_engine.specs.declared.id.TheConstants as id
use Rattle.spv_module.specs.Options.{◌>>=◌}
use Rattle.spv_meaning.specs.Events.{Spot, Write}
use Rattle.spv_module.specs.Instructions.{said, definition_in}
use Rattle.clv_engine.specs.Emitted.{inst, terms, sum, function_end, reflection, body_of}
use Rattle.spv_meaning.specs.Start.{Start}
use Rattle.spv_module.specs.Interface.{pointee_by}
use Rattle.launch_text.specs.WorkItems.{Sizes}
use Rattle.launch_text.specs.Rules.{size_of}
use Rattle.spv_meaning.specs.Invocation.{Value, Scalars, PointsAt, Run, run, over, Questions, Given, Reached, Inside, Beyond, scalar_by, scalar_at, scalars_at, buffer_among, reached, spot_by, chain_spot, chain_trap, giving, storing, as_pointer, row_by, said_at, status_by, next_by, invocation}
use Rattle.clv_steps.proofs.Quiet.{Quietly, and_then}
use Rattle.clv_engine.proofs.Places.{Lies, code_of}
use Rattle.clv_engine.proofs.Literals.{literals_found}
use Rattle.clv_engine.proofs.SourceRun.{total_of}
use Rattle.clv_engine.proofs.TargetSteps.{step, newest, older}
use Rattle.clv_engine.proofs.TargetTerms.{Has, Holds, IsInput, Comes, no_value, with_global_id, global_id_runs, terms_come, sum_apart}

-- The start's function is the module's, and its only buffer has so many bytes.
pub record IsStart (start : Start) (file size : ℕ) : Type 0 where
  pub function : start.function ≡ id.MAIN
  pub bound : start.bound ≡ record { set = 0; binding = 0; buffer = file } ∷ []
  pub sized : size_of start.buffers file ≡ Some size

abbrev pub given_for : Kernel → Start → Sizes → Given
given_for k start place = record { body = body_of k; start = start; place = place }

input_found : (k : Kernel) (start : Start) (place : Sizes) → IsInput (given_for k start place) place.x place.y place.z
input_found k start place = record { is = refl }

-- the element that the write goes to
abbrev pub spot_of : ℕ → ℕ → Spot
spot_of file x = record { buffer = file; offset = 0 + 4 * x; bits = 32 }

-- an access chain, once its buffer is known, and then once its size is
abbrev chain_in : Given → List ℕ → Option ℕ → Option (ℕ × Reached)
chain_in g is o = o >>= λ buffer. size_of g.start.buffers buffer >>= λ size. pointee_by (definition_in g.body id.BUFFER) >>= λ pointer. pointee_by (definition_in g.body pointer) >>= λ block. Some (buffer, reached g.body size (Inside block 0) is)

abbrev chain_sized : Given → List ℕ → ℕ → Option ℕ → Option (ℕ × Reached)
chain_sized g is buffer o = o >>= λ size. pointee_by (definition_in g.body id.BUFFER) >>= λ pointer. pointee_by (definition_in g.body pointer) >>= λ block. Some (buffer, reached g.body size (Inside block 0) is)

-- its spot, by where it has come to
abbrev spot_at : Given → Option (ℕ × Reached) → Option Spot
spot_at g o = o >>= λ c. spot_by g.body c.0 c.1

chain_found : (k : Kernel) (start : Start) (place : Sizes) (file size x : ℕ) → IsStart start file size → nat_lt x ((size - 0) / 4) ≡ true → chain_spot (given_for k start place) id.BUFFER (Some (0 ∷ x ∷ [])) ≡ Some (spot_of file x)
chain_found k start place file size x s low =
    let g = given_for k start place in
    let is : List ℕ = 0 ∷ x ∷ [] in
    ap (λ bs. spot_at g (chain_in g is (buffer_among g.body id.BUFFER bs))) s.bound ∙ ap (λ o. spot_at g (chain_sized g is file o)) s.sized ∙ ap (λ b. spot_by g.body file (reached g.body size (cond b (Inside id.UINT (0 + 4 * x)) Beyond) [])) low

scalars_more : (g : Given) (vs : List (ℕ × Value)) (i n : ℕ) (is ns : List ℕ) → Has g vs i n → scalars_at g vs is ≡ Some ns → scalars_at g vs (i ∷ is) ≡ Some (n ∷ ns)
scalars_more g vs i n is ns h e = ap (λ o. scalar_by o >>= λ m. scalars_at g vs is >>= λ ms. Some (m ∷ ms)) h ∙ ap (λ o. o >>= λ ms. Some (n ∷ ms)) e

-- the values behind the load of the place
abbrev place_values : Sizes → List (ℕ × Value)
place_values place = with_global_id id.PLACE place.x place.y place.z []

place_holds : (k : Kernel) (start : Start) (place : Sizes) → Holds (given_for k start place) place.x id.TERMS (place_values place)
place_holds k start place =
    let g = given_for k start place in
    let all : Value = Scalars (place.x ∷ place.y ∷ place.z ∷ []) in
    let loaded : List (ℕ × Value) = (id.PLACE, all) ∷ [] in
    let x : Value = Scalars (place.x ∷ []) in
    record {
      fresh = λ i from. no_value (id.PLACE + 1) i x loaded (λ e. omega (arith, from, e)) (no_value id.PLACE i all [] (λ e. omega (arith, from, e)) refl);
      place = refl;
      nothing = refl;
      high = omega arith;
    }

-- the label, the load of the place and the terms
to_place : (k : Kernel) (start : Start) (place : Sizes) (f p : ℕ) → Lies (body_of k) p (code_of k) → Quietly (invocation (given_for k start place)) 5 (run f p [] []) (run f (p + 1 + 1 + 1) [] (place_values place))
to_place k start place f p lies =
    let g = given_for k start place in
    let label = step g f p [] [] (inst op.LABEL (Id id.ENTRY ∷ [])) (run f (p + 1) [] []) lies.0 refl in
    and_then (invocation g) 1 4 (run f p [] []) (run f (p + 1) [] []) (run f (p + 1 + 1 + 1) [] (place_values place)) label (global_id_runs g f (p + 1) id.PLACE place.x place.y place.z [] (terms k.terms ++ (function_end (sum k.terms) ++ reflection)) (input_found k start place) lies.1)

to_sum : (k : Kernel) (start : Start) (place : Sizes) (f p : ℕ) → Lies (body_of k) p (code_of k) → (after : ℕ) × Comes (given_for k start place) f p place.x [] (5 + 5 * length k.terms) (function_end (sum k.terms) ++ reflection) after (sum k.terms) (total_of place.x k.terms)
to_sum k start place f p lies =
    let g = given_for k start place in
    let behind = function_end (sum k.terms) ++ reflection in
    let here = run f p [] [] in
    let middle = run f (p + 1 + 1 + 1) [] (place_values place) in
    let c = terms_come g f (p + 1 + 1 + 1) place.x place.y place.z (place_values place) behind k.terms (input_found k start place) (literals_found k) (place_holds k start place) lies.1.1.1 in
    let d = c.1 in (
      c.0,
      record {
        count = 5 + d.count;
        few = let e = d.few in omega (arith, e);
        to = d.to;
        values = d.values;
        runs = and_then (invocation g) 5 d.count here middle (run f d.to [] d.values) (to_place k start place f p lies) d.runs;
        lies = d.lies;
        holds = d.holds;
        has = d.has;
      },
    )

chain_runs : (k : Kernel) (start : Start) (place : Sizes) (f p file size x : ℕ) (vs : List (ℕ × Value)) → IsStart start file size → nat_lt x ((size - 0) / 4) ≡ true → Has (given_for k start place) vs id.ZERO 0 → Has (given_for k start place) vs (id.PLACE + 1) x
    → slice_get (body_of k) p ≡ Some (inst op.ACCESS_CHAIN (Id id.UINT_POINTER ∷ Id id.ELEMENT ∷ Id id.BUFFER ∷ Id id.ZERO ∷ Id (id.PLACE + 1) ∷ [])) → Quietly (invocation (given_for k start place)) 1 (run f p [] vs) (run f (p + 1) [] ((id.ELEMENT, PointsAt (spot_of file x)) ∷ vs))
chain_runs k start place f p file size x vs s low zero_there x_there h =
    let g = given_for k start place in
    let is = scalars_more g vs id.ZERO 0 ((id.PLACE + 1) ∷ []) (x ∷ []) zero_there (scalars_more g vs (id.PLACE + 1) x [] [] x_there refl) in
    step g f p [] vs (inst op.ACCESS_CHAIN (Id id.UINT_POINTER ∷ Id id.ELEMENT ∷ Id id.BUFFER ∷ Id id.ZERO ∷ Id (id.PLACE + 1) ∷ [])) (run f (p + 1) [] ((id.ELEMENT, PointsAt (spot_of file x)) ∷ vs)) h
    (ap (λ o. giving (chain_trap g id.BUFFER o) f p vs id.ELEMENT (as_pointer (chain_spot g id.BUFFER o))) is ∙ ap (λ o. giving (chain_trap g id.BUFFER (Some (0 ∷ x ∷ []))) f p vs id.ELEMENT (as_pointer o)) (chain_found k start place file size x s low))

-- At the write: what is asked, and what is left behind it.
pub record Writes (g : Given) (f p : ℕ) (most file x v : ℕ) : Type 0 where
  pub count : ℕ
  pub few : count ≤ most
  pub here : Run
  pub behind : Run
  pub runs : Quietly (invocation g) count (run f p [] []) here
  pub asks : (invocation g).status here ≡ Asks (record { function = f; event = Write (spot_of file x) v })
  pub goes_on : (y : ℕ) → (invocation g).next y here ≡ behind
  pub returns : Quietly (invocation g) 1 behind over

store_row : (g : Given) (f p : ℕ) (vs : List (ℕ × Value)) (file x i n : ℕ) → (id.ELEMENT ≡ i → ⊥) → Has g vs i n → slice_get g.body p ≡ Some (inst op.STORE (Id id.ELEMENT ∷ Id i ∷ []))
    → row_by g f p [] ((id.ELEMENT, PointsAt (spot_of file x)) ∷ vs) (said_at g.body p) ≡ Questions (Write (spot_of file x) n) (λ y. run f (p + 1) [] ((id.ELEMENT, PointsAt (spot_of file x)) ∷ vs))
store_row g f p vs file x i n apart has h =
    let at : Value = PointsAt (spot_of file x) in
    let values : List (ℕ × Value) = (id.ELEMENT, at) ∷ vs in
    ap (λ o. row_by g f p [] values (o >>= λ j. Some (said j))) h ∙ ap (λ o. storing f p values o (scalar_at g values i)) (newest g id.ELEMENT at vs) ∙ ap (λ o. storing f p values (Some at) (scalar_by o)) (older g id.ELEMENT i at vs apart ∙ has)

pub to_write : (k : Kernel) (start : Start) (place : Sizes) (f p file size : ℕ) → IsStart start file size → nat_lt place.x ((size - 0) / 4) ≡ true → Lies (body_of k) p (code_of k) → Writes (given_for k start place) f p (6 + 5 * length k.terms) file place.x (total_of place.x k.terms)
to_write k start place f p file size s low lies =
    let g = given_for k start place in
    let x = place.x in
    let v = total_of x k.terms in
    let c = (to_sum k start place f p lies).1 in
    let q = c.to in
    let vs = c.values in
    let with_spot : List (ℕ × Value) = (id.ELEMENT, PointsAt (spot_of file x)) ∷ vs in
    let here = run f (q + 1) [] with_spot in
    let behind = run f (q + 1 + 1) [] with_spot in
    let row = store_row g f (q + 1) vs file x (sum k.terms) v (sum_apart k.terms) c.has c.lies.1.0 in
    record {
      count = c.count + 1;
      few = let e = c.few in omega (arith, e);
      here = here;
      behind = behind;
      runs = and_then (invocation g) c.count 1 (run f p [] []) (run f q [] vs) here c.runs (chain_runs k start place f q file size x vs s low c.holds.nothing c.holds.place c.lies.0);
      asks = ap (status_by f) row;
      goes_on = λ y. ap (next_by y) row;
      returns = step g f (q + 1 + 1) [] with_spot (inst op.RETURN []) over c.lies.1.1.0 refl;
    }
