-- A log that was taken of a state that forgets.
use Rattle.mig_machine.proofs.Common.{◌≡◌, ℕ, Bool, true, false, cond, List, refl, sym, ap, subst, ◌∙◌, ◌==◌, list_any, fun_ext, LogTaken, Ran, Pfns, no_pfns, without_pfns, forgetting, MachineState, forgotten}

-- what isn't in a set stays out of it
out_by : (b : Bool) (x : Bool) → x ≡ false → cond b false x ≡ false
out_by true x e = refl
out_by false x e = e

out : (list : List ℕ) (set : Pfns) (p : ℕ) → set p ≡ false → without_pfns list set p ≡ false
out list set p e = out_by (list_any (λ q. p == q) list) (set p) e

-- what a set without these numbers doesn't have, another one doesn't that has less
less_by : (b : Bool) (x y : Bool) → (x ≡ false → y ≡ false) → cond b false x ≡ false → cond b false y ≡ false
less_by true x y h e = refl
less_by false x y h e = h e

forgetting_ran : (list : List ℕ) (s t : MachineState) (log : Pfns) → Ran s t log → Ran (forgetting list s) (forgetting list t) (without_pfns list log)
forgetting_ran list s t log r = record {
  shape = r.shape;
  honest = refl;
  grown = λ p. less_by (list_any (λ q. p == q) list) (log p) (s.log p) (r.grown p);
  quiet = λ is p out. cc;
  stopped = r.stopped;
}

none_left : (list : List ℕ) → without_pfns list no_pfns ≡ no_pfns
none_left list = fun_ext (λ p. out list no_pfns p refl)

pub forgetting_took : (list : List ℕ) (log bits : Pfns) (s t : MachineState) → LogTaken log s t → bits ≡ without_pfns list log → LogTaken bits (forgetting list s) (forgetting list t)
forgetting_took list log bits s t h e = subst (λ (x : Pfns). LogTaken x (forgetting list s) (forgetting list t)) (sym e) (record {
  ran = forgetting_ran list s t log h.ran;
  below = λ p high. out list log p (h.below p high);
  empty = ap (without_pfns list) h.empty ∙ none_left list;
  history = ap (forgotten list) h.history;
  paused = h.paused;
})
