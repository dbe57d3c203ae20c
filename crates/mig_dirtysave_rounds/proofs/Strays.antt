-- Which numbers were read.
use Rattle.mig_dirtysave_rounds.proofs.Common.{◌≡◌, ℕ, ap, ◌∙◌, inl, inr, History, MachineState, Peeked, Looks, Strays}

pub strays_none : (p : ℕ) (h k : History) → k ≡ h → Strays p h k
strays_none p h k e = record {
  taken = ap (λ (x : History). x.taken) e;
  read = inl (ap (λ (x : History). x.since.read) e);
}

pub strays_peek : (p : ℕ) (s t : MachineState) → Peeked p s t → Strays p s.history t.history
strays_peek p s t peeked = record {
  taken = ap (λ (x : History). x.taken) peeked.history;
  read = inr (ap (λ (x : History). x.since.read) peeked.history);
}

pub strays_looks : (p n : ℕ) (h : History) (t u : MachineState) → Strays p h t.history → Looks n t u → Strays p h u.history
strays_looks p n h t u strays looks = record {
  taken = looks.taken ∙ strays.taken;
  read = elim strays.read [
    | inl none ↦ inl (looks.read ∙ none)
    | inr one ↦ inr (looks.read ∙ one)
  ];
}
