-- One run after another, and what is seen of a run.
use Rattle.std.proofs.Common.{◌≡◌, ℕ, ◌+◌, ◌*◌, ◌≤◌, List, [], ◌∷◌, ◌++◌, length, refl, sym, ap, ◌∙◌, arith, append_assoc}
use Rattle.clv_steps.specs.Machines.{Machine, after, told_by, told, IsLegal, paid, in_words}

pub after_append : {S E : Type 0} (m : Machine S E) (g h : List ℕ) (s : S) → after m (g ++ h) s ≡ after m h (after m g s)
after_append m [] h s = refl
after_append m (x ∷ g) h s = after_append m g h (m.next x s)

pub told_append : {S E : Type 0} (m : Machine S E) (g h : List ℕ) (s : S) → told m (g ++ h) s ≡ told m g s ++ told m h (after m g s)
told_append m [] h s = refl
told_append m (x ∷ g) h s = ap (λ l. told_by (m.status s) x ++ l) (told_append m g h (m.next x s)) ∙ sym (append_assoc (told_by (m.status s) x) (told m g (m.next x s)) _)

pub legal_append : {S E : Type 0} (m : Machine S E) (g h : List ℕ) (s : S) → IsLegal m g s → IsLegal m h (after m g s) → IsLegal m (g ++ h) s
legal_append m [] h s l k = k
legal_append m (x ∷ g) h s l k = (l.0, legal_append m g h (m.next x s) l.1 k)

-- both parts of a legal history are legal
pub legal_front : {S E : Type 0} (m : Machine S E) (g h : List ℕ) (s : S) → IsLegal m (g ++ h) s → IsLegal m g s
legal_front m [] h s l = tt
legal_front m (x ∷ g) h s l = (l.0, legal_front m g h (m.next x s) l.1)

pub legal_behind : {S E : Type 0} (m : Machine S E) (g h : List ℕ) (s : S) → IsLegal m (g ++ h) s → IsLegal m h (after m g s)
legal_behind m [] h s l = l
legal_behind m (x ∷ g) h s l = legal_behind m g h (m.next x s) l.1

pub paid_append : {S E : Type 0} (m : Machine S E) (cost : S → ℕ) (g h : List ℕ) (s : S) → paid m cost (g ++ h) s ≡ paid m cost g s + paid m cost h (after m g s)
paid_append m cost [] h s = let e : paid m cost h s ≡ 0 + paid m cost h s = omega arith in e
paid_append m cost (x ∷ g) h s = let e = paid_append m cost g h (m.next x s) in omega (arith, e)

-- where each move costs 1, their number
pub paid_length : {S E : Type 0} (m : Machine S E) (h : List ℕ) (s : S) → paid m (λ z. 1) h s ≡ length h
paid_length m [] s = refl
paid_length m (x ∷ h) s = let e = paid_length m h (m.next x s) in omega (arith, e)

pub paid_times : {S E : Type 0} (m : Machine S E) (cost : S → ℕ) (n : ℕ) (h : List ℕ) (s : S) → paid m (λ z. n * cost z) h s ≡ n * paid m cost h s
paid_times m cost n [] s = omega arith
paid_times m cost n (x ∷ h) s = let e = paid_times m cost n h (m.next x s) in omega (arith, e)

-- where no move costs more, all together don't
pub paid_most : {S E : Type 0} (m : Machine S E) (cost most : S → ℕ) → ((s : S) → cost s ≤ most s) → (h : List ℕ) (s : S) → paid m cost h s ≤ paid m most h s
paid_most m cost most low [] s = omega arith
paid_most m cost most low (x ∷ h) s = let a = low s in let b = paid_most m cost most low h (m.next x s) in omega (arith, a, b)

pub words_append : {E F : Type 0} (word : E → F) (g h : List (E × ℕ)) → in_words word (g ++ h) ≡ in_words word g ++ in_words word h
words_append word [] h = refl
words_append word (x ∷ g) h = ap (λ l. (word x.0, x.1) ∷ l) (words_append word g h)

-- words put into words
pub words_words : {E F G : Type 0} (word : E → F) (word2 : F → G) (h : List (E × ℕ)) → in_words word2 (in_words word h) ≡ in_words (λ e. word2 (word e)) h
words_words word word2 [] = refl
words_words word word2 (x ∷ h) = ap (λ l. (word2 (word x.0), x.1) ∷ l) (words_words word word2 h)
