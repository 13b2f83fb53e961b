-- What an invocation of a kernel's module does at the code of the terms.
use Rattle.std.proofs.Common.{◌≡◌, ℕ, suc, ◌+◌, ◌*◌, ◌<◌, ◌≤◌, List, [], ◌∷◌, ◌++◌, length, Some, None, ap, ◌∙◌, arith, cond}
use Rattle.clv_num.specs.Numbers.{add_of}
use Rattle.spv_module.specs.declared.module.Inst.{Inst}
use Rattle.spv_module.specs.declared.module.Operand.TheVariants.{Id}
use Rattle.spv_module.specs.declared.op.TheConstants as op
use Rattle.clv_engine.specs.declared.form.Term.{Term}
use Rattle.clv_engine.specs.declared.form.Term.TheVariants.{GlobalId, Literal}
use Rattle.clv_engine.specs.declared.id.TheConstants as id
use Rattle.spv_module.specs.Instructions.{definition_in}
use Rattle.clv_engine.specs.Emitted.{inst, global_id, term, value, terms, sums_from, sum_from, sum}
use Rattle.spv_meaning.specs.Invocation.{Value, Scalars, run, Given, value_among, value_at, input_of, invocation}
use Rattle.clv_engine.proofs.NumberTests.{other_number}
use Rattle.clv_steps.proofs.Quiet.{Quietly, stays, and_then}
use Rattle.clv_engine.proofs.Places.{Lies}
use Rattle.clv_engine.proofs.Literals.{Finds}
use Rattle.clv_engine.proofs.SourceRun.{term_value, total_from, total_of}
use Rattle.clv_engine.proofs.TargetSteps.{newest, older, constant_value, load_runs, extract_runs, add_runs}

-- The id has this one number.
abbrev pub Has : Given → List (ℕ × Value) → ℕ → ℕ → Type 0
Has g vs i n = value_at g vs i ≡ Some (Scalars (n ∷ []))

-- What the code of the terms leaves as it is: no id from `next` on has a value, the place's index is there, and the constant 0.
pub record Holds (g : Given) (x next : ℕ) (vs : List (ℕ × Value)) : Type 0 where
  pub fresh : (i : ℕ) → next ≤ i → value_among vs i ≡ None
  pub place : Has g vs (id.PLACE + 1) x
  pub nothing : Has g vs id.ZERO 0
  pub high : id.TERMS ≤ next

pub no_value : (r i : ℕ) (v : Value) (vs : List (ℕ × Value)) → (r ≡ i → ⊥) → value_among vs i ≡ None → value_among ((r, v) ∷ vs) i ≡ None
no_value r i v vs h e = ap (λ b. cond b (Some v) (value_among vs i)) (other_number r i h) ∙ e

holds_more : (g : Given) (x next r after : ℕ) (v : Value) (vs : List (ℕ × Value)) → next ≤ r → r < after → Holds g x next vs → Holds g x after ((r, v) ∷ vs)
holds_more g x next r after v vs low up h =
    let high = h.high in
    record {
      fresh = λ i from. no_value r i v vs (λ e. omega (arith, low, up, from, e)) (h.fresh i (omega (arith, low, up, from)));
      place = older g r (id.PLACE + 1) v vs (λ e. omega (arith, low, high, e)) ∙ h.place;
      nothing = older g r id.ZERO v vs (λ e. omega (arith, low, high, e)) ∙ h.nothing;
      high = omega (arith, low, up, high);
    }

-- Where the run has come to: in so many steps at most, before this code, with this number at an id, and none from `next` on.
pub record Comes (g : Given) (f p x : ℕ) (vs : List (ℕ × Value)) (most : ℕ) (behind : List Inst) (next i n : ℕ) : Type 0 where
  pub count : ℕ
  pub few : count ≤ most
  pub to : ℕ
  pub values : List (ℕ × Value)
  pub runs : Quietly (invocation g) count (run f p [] vs) (run f to [] values)
  pub lies : Lies g.body to behind
  pub holds : Holds g x next values
  pub has : Has g values i n

-- What stands at the input variable: the three numbers of the global id.
pub record IsInput (g : Given) (x y z : ℕ) : Type 0 where
  pub is : input_of g (definition_in g.body id.GLOBAL_ID) ≡ Some (x ∷ y ∷ z ∷ [])

abbrev pub with_global_id : ℕ → ℕ → ℕ → ℕ → List (ℕ × Value) → List (ℕ × Value)
with_global_id r x y z vs = (r + 1, Scalars (x ∷ [])) ∷ (r, Scalars (x ∷ y ∷ z ∷ [])) ∷ vs

pub global_id_runs : (g : Given) (f p r x y z : ℕ) (vs : List (ℕ × Value)) (behind : List Inst) → IsInput g x y z → Lies g.body p (global_id r ++ behind) → Quietly (invocation g) 4 (run f p [] vs) (run f (p + 1 + 1) [] (with_global_id r x y z vs))
global_id_runs g f p r x y z vs behind input lies =
    let loaded = (r, Scalars (x ∷ y ∷ z ∷ [])) ∷ vs in
    and_then (invocation g) 3 1 (run f p [] vs) (run f (p + 1) [] loaded) (run f (p + 1 + 1) [] (with_global_id r x y z vs)) (load_runs g f p r x y z vs input.is lies.0) (extract_runs g f (p + 1) (r + 1) r x (y ∷ z ∷ []) loaded (newest g r (Scalars (x ∷ y ∷ z ∷ [])) vs) lies.1.0)

global_id_holds : (g : Given) (x y z next : ℕ) (vs : List (ℕ × Value)) → Holds g x next vs → Holds g x (next + 2) (with_global_id next x y z vs)
global_id_holds g x y z next vs h = holds_more g x (next + 1) (next + 1) (next + 2) _ _ (omega arith) (omega arith) (holds_more g x next next (next + 1) _ vs (omega arith) (omega arith) h)

global_id_keeps : (g : Given) (x y z next j m : ℕ) (vs : List (ℕ × Value)) → j < next → Has g vs j m → Has g (with_global_id next x y z vs) j m
global_id_keeps g x y z next j m vs low h =
    let loaded = (next, Scalars (x ∷ y ∷ z ∷ [])) ∷ vs in
    older g (next + 1) j (Scalars (x ∷ [])) loaded (λ e. omega (arith, low, e)) ∙ older g next j (Scalars (x ∷ y ∷ z ∷ [])) vs (λ e. omega (arith, low, e)) ∙ h

holds_up : (g : Given) (x next after : ℕ) (vs : List (ℕ × Value)) → next ≤ after → Holds g x next vs → Holds g x after vs
holds_up g x next after vs up h = record {
  fresh = λ i from. h.fresh i (omega (arith, up, from));
  place = h.place;
  nothing = h.nothing;
  high = let high = h.high in omega (arith, up, high);
}

-- a run that comes on from where another has come to
comes_on : (g : Given) (f p x a b most next after i n j m : ℕ) (vs : List (ℕ × Value)) (is behind : List Inst) (c : Comes g f p x vs a is next i n) → Comes g f c.to x c.values b behind after j m → a + b ≤ most → Comes g f p x vs most behind after j m
comes_on g f p x a b most next after i n j m vs is behind c d low = record {
  count = c.count + d.count;
  few = let k = c.few in let l = d.few in omega (arith, k, l, low);
  to = d.to;
  values = d.values;
  runs = and_then (invocation g) c.count d.count (run f p [] vs) (run f c.to [] c.values) (run f d.to [] d.values) c.runs d.runs;
  lies = d.lies;
  holds = d.holds;
  has = d.has;
}

-- the first term
first_comes : (g : Given) (f p x y z next : ℕ) (vs : List (ℕ × Value)) (behind : List Inst) (t : Term) (ts : List Term) → IsInput g x y z → Finds g.body next (t ∷ ts) → Holds g x next vs → Lies g.body p (term next t ++ behind) → Comes g f p x vs 4 behind (next + 3) (value next t) (term_value x t)
first_comes g f p x y z next vs behind GlobalId ts input finds h lies = record {
  count = 4;
  few = omega arith;
  to = p + 1 + 1;
  values = with_global_id next x y z vs;
  runs = global_id_runs g f p next x y z vs behind input lies;
  lies = lies.1.1;
  holds = holds_up g x (next + 2) (next + 3) (with_global_id next x y z vs) (omega arith) (global_id_holds g x y z next vs h);
  has = newest g (next + 1) (Scalars (x ∷ [])) ((next, Scalars (x ∷ y ∷ z ∷ [])) ∷ vs);
}
first_comes g f p x y z next vs behind (Literal n) ts input finds h lies = record {
  count = 0;
  few = omega arith;
  to = p;
  values = vs;
  runs = stays (run f p [] vs);
  lies = lies;
  holds = holds_up g x next (next + 3) vs (omega arith) h;
  has = constant_value g id.UINT next n vs (h.fresh next (omega arith)) finds.0;
}

-- the sum of two values
add_comes : (g : Given) (f p x j m i n next : ℕ) (vs : List (ℕ × Value)) (behind : List Inst) → Has g vs j m → Has g vs i n → Holds g x (next + 2) vs → Lies g.body p (inst op.I_ADD (Id id.UINT ∷ Id (next + 2) ∷ Id j ∷ Id i ∷ []) ∷ behind) → Comes g f p x vs 1 behind (next + 3) (next + 2) (add_of 32 m n)
add_comes g f p x j m i n next vs behind left right h lies = record {
  count = 1;
  few = omega arith;
  to = p + 1;
  values = (next + 2, Scalars (add_of 32 m n ∷ [])) ∷ vs;
  runs = add_runs g f p (next + 2) j i m n vs left right lies.0;
  lies = lies.1;
  holds = holds_more g x (next + 2) (next + 2) (next + 3) (Scalars (add_of 32 m n ∷ [])) vs (omega arith) (omega arith) h;
  has = newest g (next + 2) (Scalars (add_of 32 m n ∷ [])) vs;
}

abbrev add : ℕ → ℕ → ℕ → Inst
add next j i = inst op.I_ADD (Id id.UINT ∷ Id (next + 2) ∷ Id j ∷ Id i ∷ [])

-- a further term, and the sum with it
next_comes : (g : Given) (f p x y z next j m : ℕ) (vs : List (ℕ × Value)) (behind : List Inst) (t : Term) (ts : List Term) → IsInput g x y z → Finds g.body next (t ∷ ts) → j < next → Has g vs j m → Holds g x next vs → Lies g.body p (term next t ++ add next j (value next t) ∷ behind) → Comes g f p x vs 5 behind (next + 3) (next + 2) (add_of 32 m (term_value x t))
next_comes g f p x y z next j m vs behind GlobalId ts input finds low has h lies =
    let values = with_global_id next x y z vs in
    let has_x = newest g (next + 1) (Scalars (x ∷ [])) ((next, Scalars (x ∷ y ∷ z ∷ [])) ∷ vs) in
    let sum = add_comes g f (p + 1 + 1) x j m (next + 1) x next values behind (global_id_keeps g x y z next j m vs low has) has_x (global_id_holds g x y z next vs h) lies.1.1 in
    record {
      count = 4 + sum.count;
      few = let k = sum.few in omega (arith, k);
      to = sum.to;
      values = sum.values;
      runs = and_then (invocation g) 4 sum.count (run f p [] vs) (run f (p + 1 + 1) [] values) (run f sum.to [] sum.values) (global_id_runs g f p next x y z vs (add next j (next + 1) ∷ behind) input lies) sum.runs;
      lies = sum.lies;
      holds = sum.holds;
      has = sum.has;
    }
next_comes g f p x y z next j m vs behind (Literal n) ts input finds low has h lies =
    let sum = add_comes g f p x j m next n next vs behind has (constant_value g id.UINT next n vs (h.fresh next (omega arith)) finds.0) (holds_up g x next (next + 2) vs (omega arith) h) lies in
    record { count = sum.count; few = (let k = sum.few in omega (arith, k)); to = sum.to; values = sum.values; runs = sum.runs; lies = sum.lies; holds = sum.holds; has = sum.has }

-- all further terms
sums_come : (g : Given) (f p x y z next j m : ℕ) (vs : List (ℕ × Value)) (behind : List Inst) (ts : List Term) → IsInput g x y z → Finds g.body next ts → j < next → Has g vs j m → Holds g x next vs → Lies g.body p (sums_from next j ts ++ behind) → (after : ℕ) × Comes g f p x vs (5 * length ts) behind after (sum_from next j ts) (total_from x m ts)
sums_come g f p x y z next j m vs behind [] input finds low has h lies = (next, record { count = 0; few = omega arith; to = p; values = vs; runs = stays (run f p [] vs); lies = lies; holds = h; has = has })
sums_come g f p x y z next j m vs behind (GlobalId ∷ ts) input finds low has h lies =
    let is = sums_from (next + 3) (next + 2) ts ++ behind in
    let one = next_comes g f p x y z next j m vs is GlobalId ts input finds low has h lies in
    let rest = sums_come g f one.to x y z (next + 3) (next + 2) (add_of 32 m x) one.values behind ts input finds (omega arith) one.has one.holds one.lies in
    (rest.0, comes_on g f p x 5 (5 * length ts) (5 * suc (length ts)) (next + 3) rest.0 (next + 2) (add_of 32 m x) _ _ vs is behind one rest.1 (omega arith))
sums_come g f p x y z next j m vs behind (Literal n ∷ ts) input finds low has h lies =
    let is = sums_from (next + 3) (next + 2) ts ++ behind in
    let one = next_comes g f p x y z next j m vs is (Literal n) ts input finds low has h lies in
    let rest = sums_come g f one.to x y z (next + 3) (next + 2) (add_of 32 m n) one.values behind ts input finds.1 (omega arith) one.has one.holds one.lies in
    (rest.0, comes_on g f p x 5 (5 * length ts) (5 * suc (length ts)) (next + 3) rest.0 (next + 2) (add_of 32 m n) _ _ vs is behind one rest.1 (omega arith))

pub terms_come : (g : Given) (f p x y z : ℕ) (vs : List (ℕ × Value)) (behind : List Inst) (ts : List Term) → IsInput g x y z → Finds g.body id.TERMS ts → Holds g x id.TERMS vs → Lies g.body p (terms ts ++ behind) → (after : ℕ) × Comes g f p x vs (5 * length ts) behind after (sum ts) (total_of x ts)
terms_come g f p x y z vs behind [] input finds h lies = (id.TERMS, record { count = 0; few = omega arith; to = p; values = vs; runs = stays (run f p [] vs); lies = lies; holds = h; has = h.nothing })
terms_come g f p x y z vs behind (GlobalId ∷ ts) input finds h lies =
    let next = id.TERMS + 3 in
    let is = sums_from next (id.TERMS + 1) ts ++ behind in
    let one = first_comes g f p x y z id.TERMS vs is GlobalId ts input finds h lies in
    let rest = sums_come g f one.to x y z next (id.TERMS + 1) x one.values behind ts input finds (omega arith) one.has one.holds one.lies in
    (rest.0, comes_on g f p x 4 (5 * length ts) (5 * suc (length ts)) next rest.0 (id.TERMS + 1) x _ _ vs is behind one rest.1 (omega arith))
terms_come g f p x y z vs behind (Literal n ∷ ts) input finds h lies =
    let next = id.TERMS + 3 in
    let is = sums_from next id.TERMS ts ++ behind in
    let one = first_comes g f p x y z id.TERMS vs is (Literal n) ts input finds h lies in
    let rest = sums_come g f one.to x y z next id.TERMS n one.values behind ts input finds.1 (omega arith) one.has one.holds one.lies in
    (rest.0, comes_on g f p x 4 (5 * length ts) (5 * suc (length ts)) next rest.0 id.TERMS n _ _ vs is behind one rest.1 (omega arith))

-- the sum's id is that of a term or a sum, where there is a term
sums_high : (next j : ℕ) (ts : List Term) → id.TERMS ≤ next → id.TERMS ≤ j → id.TERMS ≤ sum_from next j ts
sums_high next j [] low high = high
sums_high next j (t ∷ ts) low high = sums_high (next + 3) (next + 2) ts (omega arith) (omega arith)

pub sum_apart : (ts : List Term) → id.ELEMENT ≡ sum ts → ⊥
sum_apart [] e = omega arith
sum_apart (GlobalId ∷ ts) e = let h = sums_high (id.TERMS + 3) (id.TERMS + 1) ts (omega arith) (omega arith) in omega (arith, h, e)
sum_apart (Literal n ∷ ts) e = let h = sums_high (id.TERMS + 3) id.TERMS ts (omega arith) (omega arith) in omega (arith, h, e)
