-- The search of a kernel by its name.
use Rattle.std.proofs.Common.{◌≡◌, ℕ, suc, ◌+◌, ◌<◌, ◌≤◌, Bool, true, false, Some, List, ◌∷◌, length, get_or, drop, sym, ap, ◌∙◌, add-one}
use Rattle.std.specs.Prelude.{if◌then◌else◌, unwrap_or}
use Rattle.std.proofs.lemmas.List.{drop_more, drop_all}
use Rattle.cl_tree.specs.declared.unit.Function.{Function}
use Rattle.cl_meaning.specs.Source.{is_kernel_of, kernel_from, kernel_of}

-- what is left holds the kernel
pub record Seeks (name : List ℕ) (fs : List Function) (k : ℕ) : Type 0 where
  pub rest : unwrap_or (kernel_from k name (drop k fs)) 0 ≡ kernel_of name fs

pub seeks_begin : (name : List ℕ) (fs : List Function) → Seeks name fs 0
seeks_begin name fs = record { rest = λ i. kernel_of name fs }

at_next : (name : List ℕ) (fs : List Function) (k : ℕ) (f : Function) (b : Bool) → Seeks name fs k → k < length fs → f ≡ get_or fs k f → b ≡ is_kernel_of name f → unwrap_or (if b then Some k else kernel_from (suc k) name (drop (k + 1) fs)) 0 ≡ kernel_of name fs
at_next name fs k f b s h is found =
    ap (λ z. unwrap_or (if z then Some k else kernel_from (suc k) name (drop (k + 1) fs)) 0) found
    ∙ sym (ap (λ z. unwrap_or (kernel_from k name z) 0) (drop_more fs k f h ∙ ap (λ z. z ∷ drop (k + 1) fs) (sym is))) ∙ s.rest

pub seeks_here : (name : List ℕ) (fs : List Function) (k : ℕ) (f : Function) → Seeks name fs k → k < length fs → f ≡ get_or fs k f → true ≡ is_kernel_of name f → k ≡ kernel_of name fs
seeks_here name fs k f s h is found = at_next name fs k f true s h is found

pub seeks_more : (name : List ℕ) (fs : List Function) (k : ℕ) (f : Function) → Seeks name fs k → k < length fs → f ≡ get_or fs k f → false ≡ is_kernel_of name f → Seeks name fs (k + 1)
seeks_more name fs k f s h is found = record {
  rest = ap (λ n. unwrap_or (kernel_from n name (drop (k + 1) fs)) 0) (add-one k) ∙ at_next name fs k f false s h is found;
}

pub seeks_end : (name : List ℕ) (fs : List Function) (k : ℕ) → Seeks name fs k → length fs ≤ k → 0 ≡ kernel_of name fs
seeks_end name fs k s h = sym (ap (λ z. unwrap_or (kernel_from k name z) 0) (drop_all k fs h)) ∙ s.rest

pub ruleset kernels = (seeks_begin, seeks_here, seeks_more, seeks_end)
