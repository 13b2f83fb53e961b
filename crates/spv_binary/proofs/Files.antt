-- A whole file: what it spells, or its first fault.
use Rattle.std.proofs.Common.{◌≡◌, ◌≢◌, ℕ, ◌*◌, ◌^◌, ◌%◌, ◌<◌, ◌≤◌, List, ◌∷◌, length, drop, Result, Ok, Err, refl, sym, ap, subst, ◌∙◌, arith, inl, inr}
use Rattle.std.specs.Prelude.{slice_index, IfOk, IfErr}
use Rattle.std.specs.List.{AllByRecursion}
use Rattle.spv_module.specs.declared.module.Module.{Module}
use Rattle.spv_module.specs.declared.module.Inst.{Inst}
use Rattle.spv_module.specs.declared.module.TheConstants.{MAGIC, VERSION, MAX_BYTES}
use Rattle.spv_module.specs.Words.{body_words, module_words, little_endian, big_endian, AreSpelled, IsWord, IsSpelled, Spells}
use Rattle.spv_module.proofs.Lengths.{length-little_endian, length-big_endian}
use Rattle.spv_binary.specs.declared.stop.ReadStop.{ReadStop}
use Rattle.spv_binary.specs.declared.stop.ReadStop.TheVariants as stops
use Rattle.spv_binary.specs.declared.stop.rule.TheConstants as rule
use Rattle.spv_binary.specs.Faults.{Fault, fault, words_of, BrokenBody, Broken, too_long, too_short, ragged, wrong_magic, wrong_version, wrong_bound, wrong_schema, in_body, IsFirst}
use Rattle.spv_binary.specs.Reading.{Gives, header_at, IsBody, IsBodyFault, BodyRead, Answers, IsFaultOf}
use Rattle.spv_binary.proofs.Bodies.{BrokenBody-from, body_fits, body_clean, same_body}
use Rattle.spv_binary.proofs.Headers.{FaultIn, FaultIn-Broken, Broken-header, Broken-end, ends_early, bad_word, HeaderFails-header_at, IsHeader, IsHeader-header_at, IsGoodBelow, IsGoodBelow-header, header_earliest, header_least, short_earliest, short_least, ragged_earliest, ragged_least, inst_earliest, inst_least, none_broken}
use Rattle.spv_binary.proofs.Orders.{AreBytes, length-words_of, bytes_again, words_of-fit, low_first, high_first}

-- ---- the first fault

number_from : (bytes : List ℕ) (g : Fault) → Broken bytes g → g.word ≡ 0 → rule.SIZE ≤ g.number
number_from bytes g (too_long e h) same = let n = ap (λ (x : Fault). x.number) e in omega arith
number_from bytes g (too_short e h) same = let n = ap (λ (x : Fault). x.number) e in omega arith
number_from bytes g (ragged e h) same = let n = ap (λ (x : Fault). x.number) e in omega arith
number_from bytes g (wrong_magic w e h bad) same = let n = ap (λ (x : Fault). x.number) e in omega arith
number_from bytes g (wrong_version w e h bad) same = let n = ap (λ (x : Fault). x.number) e in omega arith
number_from bytes g (wrong_bound w e h bad) same = let n = ap (λ (x : Fault). x.number) e in omega arith
number_from bytes g (wrong_schema w e h bad) same = let n = ap (λ (x : Fault). x.number) e in omega arith
number_from bytes g (in_body h) same = let w = BrokenBody-from (slice_index (words_of bytes) 3) 5 (drop 5 (words_of bytes)) g h in absurd (omega arith)

pub long_fault : (bytes : List ℕ) → MAX_BYTES < length bytes → IsFirst (Broken bytes) (fault rule.SIZE 0)
long_fault bytes long = record { fault = too_long refl long; earliest = λ g broken. omega arith; least = number_from bytes }

pub header_fault : (bytes : List ℕ) (f : Fault) → length bytes ≤ MAX_BYTES → header_at (words_of bytes) ≡ Err f → IsFirst (Broken bytes) f
header_fault bytes f small e =
    let ws = words_of bytes in
    elim (HeaderFails-header_at ws f e) [
      | ends_early short good is ↦ subst (IsFirst (Broken bytes)) (sym is) (record {
        fault = Broken-end bytes (inl short);
        earliest = λ g broken. short_earliest bytes ws short good g (FaultIn-Broken bytes g small broken);
        least = λ g broken same. short_least bytes ws short good g (FaultIn-Broken bytes g small broken) same;
      })
      | bad_word k w there bad good is ↦ subst (IsFirst (Broken bytes)) (sym is) (record {
        fault = Broken-header bytes k w there bad;
        earliest = λ g broken. header_earliest bytes ws k w there bad good g (FaultIn-Broken bytes g small broken);
        least = λ g broken same. header_least bytes ws k w there bad good g (FaultIn-Broken bytes g small broken) same;
      })
    ]

-- behind a good header
record IsBehind (ws : List ℕ) (bound : ℕ) : Type 0 where
  long : 5 ≤ length ws
  good : IsGoodBelow ws 5
  bound_is : slice_index ws 3 ≡ bound

IsBehind-header : (ws : List ℕ) (g b : ℕ) → IsHeader ws g b → IsBehind ws b
IsBehind-header ws g b h = subst (λ vs. IsBehind vs b) (sym h.words) (record { long = omega arith; good = IsGoodBelow-header g b (drop 5 ws) h.low h.high; bound_is = refl })

pub inst_fault : (bytes : List ℕ) (g b : ℕ) (f : Fault) → length bytes ≤ MAX_BYTES → header_at (words_of bytes) ≡ Ok (g, b) → IsBodyFault b (drop 5 (words_of bytes)) f → IsFirst (Broken bytes) f
inst_fault bytes g b f small e bad =
    let ws = words_of bytes in
    let h = IsBehind-header ws g b (IsHeader-header_at ws g b e) in
    let here = subst (λ n. IsBodyFault n (drop 5 ws) f) (sym h.bound_is) bad in
    record {
      fault = in_body here.first.fault;
      earliest = λ x broken. inst_earliest bytes ws h.long h.good f here x (FaultIn-Broken bytes x small broken);
      least = λ x broken same. inst_least bytes ws h.long h.good f here x (FaultIn-Broken bytes x small broken) same;
    }

pub ragged_fault : (bytes : List ℕ) (g b : ℕ) (body : List Inst) → length bytes ≤ MAX_BYTES → header_at (words_of bytes) ≡ Ok (g, b) → IsBody b (drop 5 (words_of bytes)) body → length bytes % 4 ≢ 0 → IsFirst (Broken bytes) (fault rule.SIZE (length (words_of bytes)))
ragged_fault bytes g b body small e read odd =
    let ws = words_of bytes in
    let h = IsBehind-header ws g b (IsHeader-header_at ws g b e) in
    let clean = subst (λ n. (x : Fault) → BrokenBody n 5 (drop 5 ws) x → ⊥) (sym h.bound_is) read.clean in
    record {
      fault = Broken-end bytes (inr odd);
      earliest = λ x broken. ragged_earliest bytes ws h.long h.good clean x (FaultIn-Broken bytes x small broken);
      least = λ x broken same. ragged_least bytes ws h.long h.good clean x (FaultIn-Broken bytes x small broken);
    }

-- ---- what is read

abbrev module_of : ℕ → ℕ → ℕ → List Inst → Module
module_of v g b body = record { version = v; generator = g; bound = b; body = body }

pub module_found : (bytes : List ℕ) (g b : ℕ) (body : List Inst) → AreBytes bytes → length bytes ≤ MAX_BYTES → header_at (words_of bytes) ≡ Ok (g, b) → IsBody b (drop 5 (words_of bytes)) body → length bytes % 4 ≡ 0 → Spells (module_of VERSION g b body) bytes
module_found bytes g b body fit small e read whole =
    let ws = words_of bytes in
    let h = IsHeader-header_at ws g b e in
    let words : ws ≡ module_words (module_of VERSION g b body) = h.words ∙ ap (λ vs. MAGIC ∷ VERSION ∷ g ∷ b ∷ 0 ∷ vs) read.words_are in
    let words_fit = subst (AllByRecursion IsWord) h.words (words_of-fit bytes fit) in
    let long = length-words_of bytes in
    record {
      spelled = record {
        version = refl;
        generator = words_fit.1.1.0.below;
        bound_low = h.low;
        bound_high = h.high;
        body = read.spelled;
        size = let same = ap length words in omega arith;
      };
      spelling = elim (bytes_again bytes fit whole) [ inl low ↦ inl (low ∙ ap little_endian words) | inr high ↦ inr (high ∙ ap big_endian words) ];
    }

-- ---- what is spelled

-- its words, read in the order of its first
pub record IsFileOf (m : Module) (bytes : List ℕ) : Type 0 where
  pub words : words_of bytes ≡ MAGIC ∷ VERSION ∷ m.generator ∷ m.bound ∷ 0 ∷ body_words m.body
  pub long : length bytes ≡ 4 * length (module_words m)

tail_fits : (m : Module) → IsSpelled m → AllByRecursion IsWord (VERSION ∷ m.generator ∷ m.bound ∷ 0 ∷ body_words m.body)
tail_fits m h =
    let high = h.bound_high in
    (record { below = omega arith }, (record { below = h.generator }, (record { below = omega arith }, (record { below = omega arith }, body_fits m.bound m.body (omega arith) h.body))))

pub IsFileOf-Spells : (m : Module) (bytes : List ℕ) → Spells m bytes → IsFileOf m bytes
IsFileOf-Spells m bytes h =
    let ws = VERSION ∷ m.generator ∷ m.bound ∷ 0 ∷ body_words m.body in
    let fit = tail_fits m h.spelled in
    let words : module_words m ≡ MAGIC ∷ ws = ap (λ v. MAGIC ∷ v ∷ m.generator ∷ m.bound ∷ 0 ∷ body_words m.body) h.spelled.version in
    elim h.spelling [
      | inl low ↦ record { words = ap words_of (low ∙ ap little_endian words) ∙ low_first ws fit; long = ap length low ∙ length-little_endian (module_words m) }
      | inr high ↦ record { words = ap words_of (high ∙ ap big_endian words) ∙ high_first ws fit; long = ap length high ∙ length-big_endian (module_words m) }
    ]

-- It breaks no rule.
pub Spells-clean : (m : Module) (bytes : List ℕ) (f : Fault) → Spells m bytes → Broken bytes f → ⊥
Spells-clean m bytes f h broken =
    let file = IsFileOf-Spells m bytes h in
    let s = h.spelled in
    let size = s.size in
    let long = file.long in
    let ws = MAGIC ∷ VERSION ∷ m.generator ∷ m.bound ∷ 0 ∷ body_words m.body in
    let there = subst (λ vs. FaultIn bytes vs f) file.words (FaultIn-Broken bytes f (omega arith) broken) in
    let high = s.bound_high in
    none_broken bytes ws (omega arith) (IsGoodBelow-header m.generator m.bound (body_words m.body) s.bound_low s.bound_high) (λ g in_it. body_clean m.bound 5 m.body g (omega arith) s.body in_it) (omega arith) f there

-- Nothing else is spelled by the same bytes.
pub Spells-unique : (m n : Module) (bytes : List ℕ) → Spells m bytes → Spells n bytes → m ≡ n
Spells-unique m n bytes p q =
    let a = (IsFileOf-Spells m bytes p).words in
    let b = (IsFileOf-Spells n bytes q).words in
    let same = sym a ∙ b in
    let generator : m.generator ≡ n.generator = cc in
    let bound : m.bound ≡ n.bound = cc in
    let words : body_words m.body ≡ body_words n.body = cc in
    let body = same_body m.bound m.body n.body p.spelled.body (subst (λ k. AreSpelled k n.body) (sym bound) q.spelled.body) words in
    ap (λ v. module_of v m.generator m.bound m.body) (p.spelled.version ∙ sym q.spelled.version)
    ∙ ap (λ g. module_of n.version g m.bound m.body) generator
    ∙ ap (λ k. module_of n.version n.generator k m.body) bound
    ∙ ap (λ is. module_of n.version n.generator n.bound is) body

-- ---- what is spelled is read

pub reads_spelled : (bytes : List ℕ) (r : Result Module ReadStop) → IfOk r (λ m. Spells m bytes) → IfErr r (IsFaultOf bytes) → (m : Module) → Spells m bytes → Answers m r
reads_spelled bytes (Ok n) found first m h = Spells-unique n m bytes found h
reads_spelled bytes (Err stops.NoMemory) found first m h = tt
reads_spelled bytes (Err (stops.Fault number word)) found first m h = Spells-clean m bytes (fault number word) h first.fault

-- ---- the same, of the code's values

pub header_stops : (bytes ws : List ℕ) (stop : ReadStop) (r : Result Module ReadStop) → length bytes ≤ MAX_BYTES → ws ≡ words_of bytes → Gives {X = ℕ × ℕ} (Err stop) (header_at ws) → r ≡ Err stop → IfErr r (IsFaultOf bytes)
header_stops bytes ws stops.NoMemory r small ws-is e is = rw is tt
header_stops bytes ws (stops.Fault n w) r small ws-is e is = rw is (header_fault bytes (fault n w) small (ap header_at (sym ws-is) ∙ e))

pub body_stops : (bytes ws : List ℕ) (g b : ℕ) (left : List ℕ) (stop : ReadStop) (r : Result Module ReadStop) → length bytes ≤ MAX_BYTES → ws ≡ words_of bytes → header_at ws ≡ Ok (g, b) → left ≡ drop 5 ws → BodyRead b left (Err stop) → r ≡ Err stop → IfErr r (IsFaultOf bytes)
body_stops bytes ws g b left stops.NoMemory r small ws-is e left-is bad is = rw is tt
body_stops bytes ws g b left (stops.Fault n w) r small ws-is e left-is bad is =
    rw is (inst_fault bytes g b (fault n w) small (ap header_at (sym ws-is) ∙ e) (subst (λ vs. IsBodyFault b vs (fault n w)) (left-is ∙ ap (drop 5) ws-is) bad))

pub ragged_stops : (bytes ws : List ℕ) (g b : ℕ) (left : List ℕ) (body : List Inst) (len : ℕ) (stop : ReadStop) → length bytes ≤ MAX_BYTES → ws ≡ words_of bytes → header_at ws ≡ Ok (g, b) → left ≡ drop 5 ws → IsBody b left body → length bytes % 4 ≢ 0 → len ≡ length ws → stop ≡ stops.Fault rule.SIZE len → IsFaultOf bytes stop
ragged_stops bytes ws g b left body len stop small ws-is e left-is read odd len-is is =
    rw (is, len-is, ws-is) (ragged_fault bytes g b body small (ap header_at (sym ws-is) ∙ e) (subst (λ vs. IsBody b vs body) (left-is ∙ ap (drop 5) ws-is) read) odd)

pub all_found : (bytes ws : List ℕ) (g b : ℕ) (left : List ℕ) (body : List Inst) → AreBytes bytes → length bytes ≤ MAX_BYTES → ws ≡ words_of bytes → header_at ws ≡ Ok (g, b) → left ≡ drop 5 ws → IsBody b left body → length bytes % 4 ≡ 0 → Spells (module_of VERSION g b body) bytes
all_found bytes ws g b left body fit small ws-is e left-is read whole =
    module_found bytes g b body fit small (ap header_at (sym ws-is) ∙ e) (subst (λ vs. IsBody b vs body) (left-is ∙ ap (drop 5) ws-is) read) whole

-- how many words there are
pub words_bound : (bytes ws : List ℕ) → length bytes ≤ MAX_BYTES → ws ≡ words_of bytes → length ws < 2 ^ 32
words_bound bytes ws small ws-is = omega (arith, ap length ws-is, length-words_of bytes)

pub header_long : (ws : List ℕ) (g b : ℕ) → header_at ws ≡ Ok (g, b) → 5 ≤ length ws
header_long ws g b e = (IsBehind-header ws g b (IsHeader-header_at ws g b e)).long
