-- The header, and the faults of a file by where they stand.
use Rattle.std.proofs.Common.{◌≡◌, ◌≢◌, ℕ, ◌%◌, ◌<◌, ◌≤◌, ◌==◌, ◌⊎◌, Bool, true, false, List, [], ◌∷◌, length, drop, zero, suc, Some, Result, Ok, Err, refl, sym, ap, subst, ◌∙◌, arith, inl, inr}
use Rattle.std.specs.Prelude.{nat_le, slice_get, slice_index}
use Rattle.std.proofs.lemmas.Bool.{cases_lt, and_parts, and_cases, leb-true, leb-false, eqb-true, eqb-false}
use Rattle.std.proofs.lemmas.List.{length-drop}
use Rattle.spv_module.specs.declared.module.TheConstants.{MAGIC, VERSION, MAX_BOUND, MAX_BYTES}
use Rattle.spv_binary.specs.declared.stop.rule.TheConstants as rule
use Rattle.spv_binary.specs.Faults.{Fault, fault, words_of, BrokenBody, Broken, too_long, too_short, ragged, wrong_magic, wrong_version, wrong_bound, wrong_schema, in_body}
use Rattle.spv_binary.specs.Reading.{◌>>=◌, demand, is_bound, word_at, header_at, IsBodyFault}
use Rattle.spv_binary.proofs.Bodies.{BrokenBody-from}
use Rattle.spv_binary.proofs.Orders.{length-words_of}

-- ---- rules of the header, by the word

abbrev pub IsBadAt : ℕ → ℕ → Type 0
IsBadAt zero w = w ≢ MAGIC
IsBadAt (suc zero) w = w ≢ VERSION
IsBadAt (suc (suc zero)) w = ⊥
IsBadAt (suc (suc (suc zero))) w = (w ≡ 0) ⊎ (MAX_BOUND < w)
IsBadAt (suc (suc (suc (suc zero)))) w = w ≢ 0
IsBadAt (suc (suc (suc (suc (suc i))))) w = ⊥

abbrev pub rule_at : ℕ → ℕ
rule_at zero = rule.MAGIC
rule_at (suc zero) = rule.VERSION
rule_at (suc (suc zero)) = rule.MAGIC
rule_at (suc (suc (suc zero))) = rule.ID
rule_at _ = rule.SCHEMA

-- where a fault of a file of these words stands: behind them, in the header, or in an instruction
pub data FaultIn (bytes ws : List ℕ) (f : Fault) : Type 0 where
  at_end : f ≡ fault rule.SIZE (length ws) → (length ws < 5) ⊎ (length bytes % 4 ≢ 0) → FaultIn bytes ws f
  in_header : (i w : ℕ) → f ≡ fault (rule_at i) i → slice_get ws i ≡ Some w → IsBadAt i w → FaultIn bytes ws f
  in_insts : BrokenBody (slice_index ws 3) 5 (drop 5 ws) f → FaultIn bytes ws f

pub FaultIn-Broken : (bytes : List ℕ) (f : Fault) → length bytes ≤ MAX_BYTES → Broken bytes f → FaultIn bytes (words_of bytes) f
FaultIn-Broken bytes f small (too_long e h) = absurd (omega arith)
FaultIn-Broken bytes f small (too_short e h) = let n = length-words_of bytes in at_end (e ∙ ap (fault rule.SIZE) (sym n)) (inl (omega arith))
FaultIn-Broken bytes f small (ragged e h) = at_end (e ∙ ap (fault rule.SIZE) (sym (length-words_of bytes))) (inr h)
FaultIn-Broken bytes f small (wrong_magic w e h bad) = in_header 0 w e h bad
FaultIn-Broken bytes f small (wrong_version w e h bad) = in_header 1 w e h bad
FaultIn-Broken bytes f small (wrong_bound w e h bad) = in_header 3 w e h bad
FaultIn-Broken bytes f small (wrong_schema w e h bad) = in_header 4 w e h bad
FaultIn-Broken bytes f small (in_body h) = in_insts h

-- and back
pub Broken-header : (bytes : List ℕ) (i w : ℕ) → slice_get (words_of bytes) i ≡ Some w → IsBadAt i w → Broken bytes (fault (rule_at i) i)
Broken-header bytes zero w h bad = wrong_magic w refl h bad
Broken-header bytes (suc zero) w h bad = wrong_version w refl h bad
Broken-header bytes (suc (suc zero)) w h bad = absurd bad
Broken-header bytes (suc (suc (suc zero))) w h bad = wrong_bound w refl h bad
Broken-header bytes (suc (suc (suc (suc zero)))) w h bad = wrong_schema w refl h bad
Broken-header bytes (suc (suc (suc (suc (suc i))))) w h bad = absurd bad

pub Broken-end : (bytes : List ℕ) → (length (words_of bytes) < 5) ⊎ (length bytes % 4 ≢ 0) → Broken bytes (fault rule.SIZE (length (words_of bytes)))
Broken-end bytes why =
    let n = length-words_of bytes in
    subst (λ k. Broken bytes (fault rule.SIZE k)) (sym n) (elim why [ inl short ↦ too_short refl (omega arith) | inr odd ↦ ragged refl odd ])

-- ---- the first fault, in the header or behind it

-- the words below one break no rule
abbrev pub IsGoodBelow : List ℕ → ℕ → Type 0
IsGoodBelow ws k = (i w : ℕ) → i < k → slice_get ws i ≡ Some w → IsBadAt i w → ⊥

slice_get-within : (ws : List ℕ) (i w : ℕ) → slice_get ws i ≡ Some w → i < length ws
slice_get-within [] i w e = absurd (cc)
slice_get-within (v ∷ ws) zero w e = omega arith
slice_get-within (v ∷ ws) (suc i) w e = let h = slice_get-within ws i w e in omega arith

bad_below : (i w : ℕ) → IsBadAt i w → i < 5
bad_below zero w bad = omega arith
bad_below (suc zero) w bad = omega arith
bad_below (suc (suc zero)) w bad = omega arith
bad_below (suc (suc (suc zero))) w bad = omega arith
bad_below (suc (suc (suc (suc zero)))) w bad = omega arith
bad_below (suc (suc (suc (suc (suc i))))) w bad = absurd bad

word_of_fault : (f : Fault) (n w : ℕ) → f ≡ fault n w → f.word ≡ w
word_of_fault f n w e = ap (λ (x : Fault). x.word) e

number_of_fault : (f : Fault) (n w : ℕ) → f ≡ fault n w → f.number ≡ n
number_of_fault f n w e = ap (λ (x : Fault). x.number) e

-- a word of the header
module _ (bytes ws : List ℕ) (k w : ℕ) (there : slice_get ws k ≡ Some w) (bad : IsBadAt k w) (good : IsGoodBelow ws k) where
  pub header_earliest : (g : Fault) → FaultIn bytes ws g → k ≤ g.word
  header_earliest g (at_end e why) = let a = word_of_fault g rule.SIZE (length ws) e in let b = slice_get-within ws k w there in omega arith
  header_earliest g (in_header i v e h worse) =
      let a = word_of_fault g (rule_at i) i e in
      elim (cases_lt i k) [ inl lt ↦ absurd (good i v lt h worse) | inr le ↦ omega arith ]
  header_earliest g (in_insts h) = let a = BrokenBody-from (slice_index ws 3) 5 (drop 5 ws) g h in let b = bad_below k w bad in omega arith

  pub header_least : (g : Fault) → FaultIn bytes ws g → g.word ≡ k → rule_at k ≤ g.number
  header_least g (at_end e why) same = let a = word_of_fault g rule.SIZE (length ws) e in let b = slice_get-within ws k w there in absurd (omega arith)
  header_least g (in_header i v e h worse) same =
      let i-is : i ≡ k = sym (word_of_fault g (rule_at i) i e) ∙ same in
      let n : g.number ≡ rule_at k = number_of_fault g (rule_at i) i e ∙ ap rule_at i-is in
      omega arith
  header_least g (in_insts h) same = let a = BrokenBody-from (slice_index ws 3) 5 (drop 5 ws) g h in let b = bad_below k w bad in absurd (omega arith)

-- the end of a header that is too short
module _ (bytes ws : List ℕ) (short : length ws < 5) (good : IsGoodBelow ws (length ws)) where
  pub short_earliest : (g : Fault) → FaultIn bytes ws g → length ws ≤ g.word
  short_earliest g (at_end e why) = let a = word_of_fault g rule.SIZE (length ws) e in omega arith
  short_earliest g (in_header i v e h worse) = absurd (good i v (slice_get-within ws i v h) h worse)
  short_earliest g (in_insts h) = let a = BrokenBody-from (slice_index ws 3) 5 (drop 5 ws) g h in omega arith

  pub short_least : (g : Fault) → FaultIn bytes ws g → g.word ≡ length ws → rule.SIZE ≤ g.number
  short_least g (at_end e why) same = let a = number_of_fault g rule.SIZE (length ws) e in omega arith
  short_least g (in_header i v e h worse) same = absurd (good i v (slice_get-within ws i v h) h worse)
  short_least g (in_insts h) same = let a = BrokenBody-from (slice_index ws 3) 5 (drop 5 ws) g h in absurd (omega arith)

-- behind a header
module _ (bytes ws : List ℕ) (long : 5 ≤ length ws) (good : IsGoodBelow ws 5) where
  -- the end of what is ragged
  pub ragged_earliest : ((g : Fault) → BrokenBody (slice_index ws 3) 5 (drop 5 ws) g → ⊥) → (g : Fault) → FaultIn bytes ws g → length ws ≤ g.word
  ragged_earliest clean g (at_end e why) = let a = word_of_fault g rule.SIZE (length ws) e in omega arith
  ragged_earliest clean g (in_header i v e h worse) = absurd (good i v (bad_below i v worse) h worse)
  ragged_earliest clean g (in_insts h) = absurd (clean g h)

  pub ragged_least : ((g : Fault) → BrokenBody (slice_index ws 3) 5 (drop 5 ws) g → ⊥) → (g : Fault) → FaultIn bytes ws g → rule.SIZE ≤ g.number
  ragged_least clean g (at_end e why) = let a = number_of_fault g rule.SIZE (length ws) e in omega arith
  ragged_least clean g (in_header i v e h worse) = absurd (good i v (bad_below i v worse) h worse)
  ragged_least clean g (in_insts h) = absurd (clean g h)

  -- an instruction
  module _ (f : Fault) (bad : IsBodyFault (slice_index ws 3) (drop 5 ws) f) where
    pub inst_earliest : (g : Fault) → FaultIn bytes ws g → f.word ≤ g.word
    inst_earliest g (at_end e why) = let a = word_of_fault g rule.SIZE (length ws) e in let b = bad.within in omega (arith, length-drop 5 ws)
    inst_earliest g (in_header i v e h worse) = absurd (good i v (bad_below i v worse) h worse)
    inst_earliest g (in_insts h) = bad.first.earliest g h

    pub inst_least : (g : Fault) → FaultIn bytes ws g → g.word ≡ f.word → f.number ≤ g.number
    inst_least g (at_end e why) same = let a = word_of_fault g rule.SIZE (length ws) e in let b = bad.within in absurd (omega (arith, length-drop 5 ws))
    inst_least g (in_header i v e h worse) same = absurd (good i v (bad_below i v worse) h worse)
    inst_least g (in_insts h) same = bad.first.least g h same

  -- nothing is broken where all is read
  pub none_broken : ((g : Fault) → BrokenBody (slice_index ws 3) 5 (drop 5 ws) g → ⊥) → length bytes % 4 ≡ 0 → (g : Fault) → FaultIn bytes ws g → ⊥
  none_broken clean whole g (at_end e why) = elim why [ inl short ↦ absurd (omega arith) | inr odd ↦ odd whole ]
  none_broken clean whole g (in_header i v e h worse) = good i v (bad_below i v worse) h worse
  none_broken clean whole g (in_insts h) = clean g h

-- ---- the header as it is read

pub record IsHeader (ws : List ℕ) (generator bound : ℕ) : Type 0 where
  pub words : ws ≡ MAGIC ∷ VERSION ∷ generator ∷ bound ∷ 0 ∷ drop 5 ws
  pub low : 1 ≤ bound
  pub high : bound ≤ MAX_BOUND

bound_passes : (n : ℕ) → is_bound n ≡ true → (1 ≤ n) × (n ≤ MAX_BOUND)
bound_passes n e = let p = and_parts (nat_le 1 n) (nat_le n MAX_BOUND) e in (leb-true _ _ p.0, leb-true _ _ p.1)

bound_fails : (n : ℕ) → is_bound n ≡ false → (n ≡ 0) ⊎ (MAX_BOUND < n)
bound_fails n e = elim (and_cases (nat_le 1 n) (nat_le n MAX_BOUND) e) [ inl p ↦ inl (let h = leb-false 1 n p in omega arith) | inr p ↦ inr (leb-false _ _ p) ]

bound_good : (n : ℕ) → 1 ≤ n → n ≤ MAX_BOUND → (n ≡ 0) ⊎ (MAX_BOUND < n) → ⊥
bound_good n p q bad = elim bad [ inl e ↦ absurd (omega arith) | inr e ↦ absurd (omega arith) ]

demand_ok : {A : Type 0} (b : Bool) (f : Fault) (r : Result A Fault) (x : A) → (demand b f >>= λ passed. r) ≡ Ok x → (b ≡ true) × (r ≡ Ok x)
demand_ok true f r x e = (refl, e)
demand_ok false f r x e = absurd (cc)

demand_err : {A : Type 0} (b : Bool) (f g : Fault) (r : Result A Fault) → (demand b f >>= λ passed. r) ≡ Err g → ((b ≡ false) × (f ≡ g)) ⊎ ((b ≡ true) × (r ≡ Err g))
demand_err true f g r e = inr (refl, e)
demand_err false f g r e = inl (refl, cc)

abbrev header : ℕ × ℕ → Result (ℕ × ℕ) Fault
header h = Ok h

abbrev failed : Fault → Result (ℕ × ℕ) Fault
failed f = Err f

-- why a header isn't read
pub data HeaderFails (ws : List ℕ) (f : Fault) : Type 0 where
  ends_early : length ws < 5 → IsGoodBelow ws (length ws) → f ≡ fault rule.SIZE (length ws) → HeaderFails ws f
  bad_word : (k w : ℕ) → slice_get ws k ≡ Some w → IsBadAt k w → IsGoodBelow ws k → f ≡ fault (rule_at k) k → HeaderFails ws f

good_none : (ws : List ℕ) → IsGoodBelow ws 0
good_none ws i w lt h bad = absurd (omega arith)

good_more : (ws : List ℕ) (k v : ℕ) → IsGoodBelow ws k → slice_get ws k ≡ Some v → (IsBadAt k v → ⊥) → IsGoodBelow ws (suc k)
good_more ws k v below there good i w lt h bad =
    elim (cases_lt i k) [
      | inl less ↦ below i w less h bad
      | inr le ↦
          let i-is : i ≡ k = omega arith in
          let both : Some w ≡ Some v = sym h ∙ ap (slice_get ws) i-is ∙ there in
          let w-is : w ≡ v = cc in
          good (subst (IsBadAt k) w-is (subst (λ j. IsBadAt j w) i-is bad))
    ]

-- one word after the other
module _ (ws : List ℕ) (f : Fault) where
  passes : (k w : ℕ) (b : Bool) (r : Result (ℕ × ℕ) Fault) → slice_get ws k ≡ Some w → IsGoodBelow ws k → (b ≡ false → IsBadAt k w) → (b ≡ true → IsBadAt k w → ⊥) → (demand b (fault (rule_at k) k) >>= λ passed. r) ≡ Err f → (r ≡ Err f → IsGoodBelow ws (suc k) → HeaderFails ws f) → HeaderFails ws f
  passes k w b r there below bad good e go =
      elim (demand_err b (fault (rule_at k) k) f r e) [
        | inl p ↦ bad_word k w there (bad p.0) below (sym p.1)
        | inr p ↦ go p.1 (good_more ws k w below there (good p.0))
      ]

  magic_step : (w : ℕ) (r : Result (ℕ × ℕ) Fault) → slice_get ws 0 ≡ Some w → (demand (w == MAGIC) (fault rule.MAGIC 0) >>= λ passed. r) ≡ Err f → (r ≡ Err f → IsGoodBelow ws 1 → HeaderFails ws f) → HeaderFails ws f
  magic_step w r there e go = passes 0 w (w == MAGIC) r there (good_none ws) (λ no. eqb-false w MAGIC no) (λ yes bad. bad (eqb-true w MAGIC yes)) e go

  version_step : (w : ℕ) (r : Result (ℕ × ℕ) Fault) → slice_get ws 1 ≡ Some w → IsGoodBelow ws 1 → (demand (w == VERSION) (fault rule.VERSION 1) >>= λ passed. r) ≡ Err f → (r ≡ Err f → IsGoodBelow ws 2 → HeaderFails ws f) → HeaderFails ws f
  version_step w r there below e go = passes 1 w (w == VERSION) r there below (λ no. eqb-false w VERSION no) (λ yes bad. bad (eqb-true w VERSION yes)) e go

  bound_step : (w : ℕ) (r : Result (ℕ × ℕ) Fault) → slice_get ws 3 ≡ Some w → IsGoodBelow ws 3 → (demand (is_bound w) (fault rule.ID 3) >>= λ passed. r) ≡ Err f → (r ≡ Err f → IsGoodBelow ws 4 → HeaderFails ws f) → HeaderFails ws f
  bound_step w r there below e go = passes 3 w (is_bound w) r there below (bound_fails w) (λ yes bad. let p = bound_passes w yes in bound_good w p.0 p.1 bad) e go

  schema_step : (w : ℕ) (r : Result (ℕ × ℕ) Fault) → slice_get ws 4 ≡ Some w → IsGoodBelow ws 4 → (demand (w == 0) (fault rule.SCHEMA 4) >>= λ passed. r) ≡ Err f → (r ≡ Err f → IsGoodBelow ws 5 → HeaderFails ws f) → HeaderFails ws f
  schema_step w r there below e go = passes 4 w (w == 0) r there below (λ no. eqb-false w 0 no) (λ yes bad. bad (eqb-true w 0 yes)) e go

  generator_step : (w : ℕ) → slice_get ws 2 ≡ Some w → IsGoodBelow ws 2 → IsGoodBelow ws 3
  generator_step w there below = good_more ws 2 w below there (λ bad. bad)

  ends_step : length ws < 5 → IsGoodBelow ws (length ws) → failed (fault rule.SIZE (length ws)) ≡ failed f → HeaderFails ws f
  ends_step short below e = ends_early short below (cc)

abbrev magic_of : ℕ → Result (ℕ × ℕ) Fault → Result (ℕ × ℕ) Fault
magic_of w r = demand (w == MAGIC) (fault rule.MAGIC 0) >>= λ passed. r

abbrev version_of : ℕ → Result (ℕ × ℕ) Fault → Result (ℕ × ℕ) Fault
version_of w r = demand (w == VERSION) (fault rule.VERSION 1) >>= λ passed. r

abbrev bound_of : ℕ → Result (ℕ × ℕ) Fault → Result (ℕ × ℕ) Fault
bound_of w r = demand (is_bound w) (fault rule.ID 3) >>= λ passed. r

abbrev schema_of : ℕ → Result (ℕ × ℕ) Fault → Result (ℕ × ℕ) Fault
schema_of w r = demand (w == 0) (fault rule.SCHEMA 4) >>= λ passed. r

pub HeaderFails-header_at : (ws : List ℕ) (f : Fault) → header_at ws ≡ Err f → HeaderFails ws f
unfolding header_at word_at
HeaderFails-header_at [] f e = ends_step [] f (omega arith) (good_none []) e
HeaderFails-header_at (a ∷ []) f e =
    let ws = a ∷ [] in
    magic_step ws f a (failed (fault rule.SIZE 1)) refl e (λ e1 good. ends_step ws f (omega arith) good e1)
HeaderFails-header_at (a ∷ b ∷ []) f e =
    let ws = a ∷ b ∷ [] in
    magic_step ws f a (version_of b (failed (fault rule.SIZE 2))) refl e (λ e1 good.
    version_step ws f b (failed (fault rule.SIZE 2)) refl good e1 (λ e2 good2. ends_step ws f (omega arith) good2 e2))
HeaderFails-header_at (a ∷ b ∷ c ∷ []) f e =
    let ws = a ∷ b ∷ c ∷ [] in
    magic_step ws f a (version_of b (failed (fault rule.SIZE 3))) refl e (λ e1 good.
    version_step ws f b (failed (fault rule.SIZE 3)) refl good e1 (λ e2 good2. ends_step ws f (omega arith) (generator_step ws f c refl good2) e2))
HeaderFails-header_at (a ∷ b ∷ c ∷ d ∷ []) f e =
    let ws = a ∷ b ∷ c ∷ d ∷ [] in
    let last = failed (fault rule.SIZE 4) in
    magic_step ws f a (version_of b (bound_of d last)) refl e (λ e1 good.
    version_step ws f b (bound_of d last) refl good e1 (λ e2 good2.
    bound_step ws f d last refl (generator_step ws f c refl good2) e2 (λ e3 good3. ends_step ws f (omega arith) good3 e3)))
HeaderFails-header_at (a ∷ b ∷ c ∷ d ∷ s ∷ rest) f e =
    let ws = a ∷ b ∷ c ∷ d ∷ s ∷ rest in
    let last = header (c, d) in
    magic_step ws f a (version_of b (bound_of d (schema_of s last))) refl e (λ e1 good.
    version_step ws f b (bound_of d (schema_of s last)) refl good e1 (λ e2 good2.
    bound_step ws f d (schema_of s last) refl (generator_step ws f c refl good2) e2 (λ e3 good3.
    schema_step ws f s last refl good3 e3 (λ e4 good4. absurd (let no : last ≡ failed f = e4 in cc)))))

pub IsHeader-header_at : (ws : List ℕ) (generator bound : ℕ) → header_at ws ≡ Ok (generator, bound) → IsHeader ws generator bound
unfolding header_at word_at
IsHeader-header_at [] g b e = absurd (let no : failed (fault rule.SIZE 0) ≡ header (g, b) = e in cc)
IsHeader-header_at (x ∷ []) g b e = let p = demand_ok (x == MAGIC) (fault rule.MAGIC 0) (failed (fault rule.SIZE 1)) (g, b) e in absurd (let no : failed (fault rule.SIZE 1) ≡ header (g, b) = p.1 in cc)
IsHeader-header_at (x ∷ y ∷ []) g b e =
    let last = failed (fault rule.SIZE 2) in
    let p = demand_ok (x == MAGIC) (fault rule.MAGIC 0) (version_of y last) (g, b) e in
    let q = demand_ok (y == VERSION) (fault rule.VERSION 1) last (g, b) p.1 in
    absurd (let no : last ≡ header (g, b) = q.1 in cc)
IsHeader-header_at (x ∷ y ∷ c ∷ []) g b e =
    let last = failed (fault rule.SIZE 3) in
    let p = demand_ok (x == MAGIC) (fault rule.MAGIC 0) (version_of y last) (g, b) e in
    let q = demand_ok (y == VERSION) (fault rule.VERSION 1) last (g, b) p.1 in
    absurd (let no : last ≡ header (g, b) = q.1 in cc)
IsHeader-header_at (x ∷ y ∷ c ∷ d ∷ []) g b e =
    let last = failed (fault rule.SIZE 4) in
    let p = demand_ok (x == MAGIC) (fault rule.MAGIC 0) (version_of y (bound_of d last)) (g, b) e in
    let q = demand_ok (y == VERSION) (fault rule.VERSION 1) (bound_of d last) (g, b) p.1 in
    let r = demand_ok (is_bound d) (fault rule.ID 3) last (g, b) q.1 in
    absurd (let no : last ≡ header (g, b) = r.1 in cc)
IsHeader-header_at (x ∷ y ∷ c ∷ d ∷ s ∷ rest) g b e =
    let last = header (c, d) in
    let p = demand_ok (x == MAGIC) (fault rule.MAGIC 0) (version_of y (bound_of d (schema_of s last))) (g, b) e in
    let q = demand_ok (y == VERSION) (fault rule.VERSION 1) (bound_of d (schema_of s last)) (g, b) p.1 in
    let r = demand_ok (is_bound d) (fault rule.ID 3) (schema_of s last) (g, b) q.1 in
    let t = demand_ok (s == 0) (fault rule.SCHEMA 4) last (g, b) r.1 in
    let both : last ≡ header (g, b) = t.1 in
    let pair : (c, d) ≡ (g, b) = cc in
    let x-is : x ≡ MAGIC = eqb-true x MAGIC p.0 in
    let y-is : y ≡ VERSION = eqb-true y VERSION q.0 in
    let s-is : s ≡ 0 = eqb-true s 0 t.0 in
    let ok = bound_passes d r.0 in
    subst (λ (h : ℕ × ℕ). IsHeader (x ∷ y ∷ c ∷ d ∷ s ∷ rest) h.0 h.1) pair (record {
      words = ap (λ v. v ∷ y ∷ c ∷ d ∷ s ∷ rest) x-is ∙ ap (λ v. MAGIC ∷ v ∷ c ∷ d ∷ s ∷ rest) y-is ∙ ap (λ v. MAGIC ∷ VERSION ∷ c ∷ d ∷ v ∷ rest) s-is;
      low = ok.0;
      high = ok.1;
    })

-- the words of a good header break no rule
pub IsGoodBelow-header : (generator bound : ℕ) (rest : List ℕ) → 1 ≤ bound → bound ≤ MAX_BOUND → IsGoodBelow (MAGIC ∷ VERSION ∷ generator ∷ bound ∷ 0 ∷ rest) 5
IsGoodBelow-header g b rest low high =
    let ws = MAGIC ∷ VERSION ∷ g ∷ b ∷ 0 ∷ rest in
    let one = good_more ws 0 MAGIC (good_none ws) refl (λ bad. bad refl) in
    let two = good_more ws 1 VERSION one refl (λ bad. bad refl) in
    let three = good_more ws 2 g two refl (λ bad. bad) in
    let four = good_more ws 3 b three refl (bound_good b low high) in
    good_more ws 4 0 four refl (λ bad. bad refl)
