-- What lines put into the log.
use Rattle.std.proofs.lemmas.Bool.{eq-eqb, eqb-true, or_cases, or_left, or_right}
use Rattle.mig_guest.specs.Pfns.{with_pfn}
use Rattle.mig_machine_script.specs.HostLines.{logs, pfn_changed, with_logged}
use Rattle.mig_machine_laws.proofs.Common.{HostOf, LineOf, Pfns, after_line, applies, logged_after, ◌≡◌, ◌⊎◌, ℕ, Bool, true, false, cond, List, [], ◌∷◌, Option, Some, None, inl, inr, refl, ap, sym, subst, ◌∙◌, ◌==◌, ◌↔◌, Write, Retype, Add, Remove, Exchange, Put, Dot}
use Rattle.mig_machine_laws.specs.ScriptWords.{IsNamedIn, MayApply, NamesPfn}
use Rattle.mig_machine_laws.specs.ScriptWords.NamesPfn.{write, retype, add, remove, exchange}
use Rattle.mig_machine_laws.specs.ScriptWords.IsNamedIn.{here, later}
use Rattle.mig_machine_laws.proofs.LinesApply.{asked}

-- ---- one line

changed_named : (pfn : ℕ) (line : LineOf) → NamesPfn pfn line → pfn_changed line ≡ Some pfn
changed_named pfn _ (write at bytes) = refl
changed_named pfn _ (retype number) = refl
changed_named pfn _ (add mfn) = refl
changed_named pfn _ remove = refl
changed_named pfn _ (exchange mfn) = refl

-- a set with what a line names
abbrev put : Option ℕ → Pfns → ℕ → Bool
put o log pfn = with_logged o log pfn

named_or_was : (pfn n : ℕ) (log : Pfns) → with_pfn n log pfn ≡ true → (n ≡ pfn) ⊎ (log pfn ≡ true)
named_or_was pfn n log is = elim (or_cases (pfn == n) (log pfn) is) [ inl same ↦ inl (sym (eqb-true pfn n same)) | inr was ↦ inr was ]

names_or_was : (pfn : ℕ) (line : LineOf) (log : Pfns) → put (pfn_changed line) log pfn ≡ true → NamesPfn pfn line ⊎ (log pfn ≡ true)
names_or_was pfn (Write n at bytes) log is = elim (named_or_was pfn n log is) [ inl same ↦ inl (subst (λ k. NamesPfn pfn (Write k at bytes)) (sym same) (write at bytes)) | inr was ↦ inr was ]
names_or_was pfn (Retype n number) log is = elim (named_or_was pfn n log is) [ inl same ↦ inl (subst (λ k. NamesPfn pfn (Retype k number)) (sym same) (retype number)) | inr was ↦ inr was ]
names_or_was pfn (Add n mfn) log is = elim (named_or_was pfn n log is) [ inl same ↦ inl (subst (λ k. NamesPfn pfn (Add k mfn)) (sym same) (add mfn)) | inr was ↦ inr was ]
names_or_was pfn (Remove n) log is = elim (named_or_was pfn n log is) [ inl same ↦ inl (subst (λ k. NamesPfn pfn (Remove k)) (sym same) remove) | inr was ↦ inr was ]
names_or_was pfn (Exchange n mfn) log is = elim (named_or_was pfn n log is) [ inl same ↦ inl (subst (λ k. NamesPfn pfn (Exchange k mfn)) (sym same) (exchange mfn)) | inr was ↦ inr was ]
names_or_was pfn (Put code first second bytes) log is = inr is
names_or_was pfn Dot log is = inr is

-- with this log behind a line, by whether it applies
logged_by : (pfn : ℕ) (h : HostOf) (line : LineOf) (log : Pfns) (b : Bool) → applies h line ≡ b → put (cond b (pfn_changed line) None) log pfn ≡ true → (log pfn ≡ true) ⊎ (NamesPfn pfn line × MayApply h line)
logged_by pfn h line log true is in_log = elim (names_or_was pfn line log in_log) [ inl names ↦ inr (names, (asked h line).0 is) | inr was ↦ inl was ]
logged_by pfn h line log false is in_log = inl in_log

stays : (pfn : ℕ) (o : Option ℕ) (log : Pfns) → log pfn ≡ true → put o log pfn ≡ true
stays pfn None log was = was
stays pfn (Some n) log was = or_right (pfn == n) (log pfn) was

comes : (pfn : ℕ) (h : HostOf) (line : LineOf) (log : Pfns) → NamesPfn pfn line → MayApply h line → put (logs h line) log pfn ≡ true
comes pfn h line log names may =
    ap (λ b. put (cond b (pfn_changed line) None) log pfn) ((asked h line).1 may) ∙ ap (λ o. put o log pfn) (changed_named pfn line names) ∙ or_left (pfn == pfn) (log pfn) (eq-eqb pfn pfn refl)

-- ---- some lines

was_or_named : (pfn : ℕ) (h : HostOf) (lines : List LineOf) (log : Pfns) → logged_after h lines log pfn ≡ true → (log pfn ≡ true) ⊎ IsNamedIn pfn h lines
was_or_named pfn h [] log is = inl is
was_or_named pfn h (line ∷ lines) log is = elim (was_or_named pfn (after_line h line) lines (with_logged (logs h line) log) is) [
  | inl now ↦ elim (logged_by pfn h line log (applies h line) refl now) [ inl was ↦ inl was | inr named ↦ inr (here h line lines named.0 named.1) ]
  | inr named ↦ inr (later h line lines named)
]

was_logged : (pfn : ℕ) (h : HostOf) (lines : List LineOf) (log : Pfns) → log pfn ≡ true → logged_after h lines log pfn ≡ true
was_logged pfn h [] log was = was
was_logged pfn h (line ∷ lines) log was = was_logged pfn (after_line h line) lines (with_logged (logs h line) log) (stays pfn (logs h line) log was)

named_logged : (pfn : ℕ) (h : HostOf) (lines : List LineOf) (log : Pfns) → IsNamedIn pfn h lines → logged_after h lines log pfn ≡ true
named_logged pfn h (line ∷ lines) log (here _ _ _ names may) = was_logged pfn (after_line h line) lines (with_logged (logs h line) log) (comes pfn h line log names may)
named_logged pfn h (line ∷ lines) log (later _ _ _ named) = named_logged pfn (after_line h line) lines (with_logged (logs h line) log) named
named_logged pfn h [] log named = elim named [ ]

pub logged : (pfn : ℕ) (h : HostOf) (lines : List LineOf) (log : Pfns) → (logged_after h lines log pfn ≡ true) ↔ ((log pfn ≡ true) ⊎ IsNamedIn pfn h lines)
logged pfn h lines log = (was_or_named pfn h lines log, λ either. elim either [ inl was ↦ was_logged pfn h lines log was | inr named ↦ named_logged pfn h lines log named ])
