-- An input that is a host and a script isn't refused.
use Rattle.mig_tool_save.proofs.Common.{◌≡◌, ℕ, List, length, sym, ap, subst, ◌∙◌, arith, Refusal, HasSaveRefusal, Passes, Unsound, HostOf, LineOf, HasHostAndScript, saved_host_at, Faulty, IsBadLine, IsOfInput, HasUnsoundPause}
use Rattle.mig_bytes.specs.Judged.{Judged}
use Rattle.mig_headers.specs.declared.image_fault.ImageCause.{ImageCause}
use Rattle.mig_headers.specs.declared.image_fault.ImagePlace.{ImagePlace}
use Rattle.mig_machine_script.proofs.OneScript.{never_both}
use Rattle.mig_tool_report.specs.declared.outcome.Refusal.TheVariants as refusals

abbrev HostJudged : Type 0
HostJudged = Judged (ImagePlace × ImageCause) HostOf

same_text : (input : List ℕ) (g h : HostOf) (s t : List ℕ) → saved_host_at input ≡ Passes g s → saved_host_at input ≡ Passes h t → s ≡ t
same_text input g h s t p q = let e : ◌≡◌ {A = HostJudged} (Passes g s) (Passes h t) = sym p ∙ q in cc

no_fault : (input : List ℕ) (h : HostOf) (t rest : List ℕ) (fault : ImagePlace × ImageCause) → saved_host_at input ≡ Passes h t → saved_host_at input ≡ Faulty fault rest → ⊥
no_fault input h t rest fault p q = let e : ◌≡◌ {A = HostJudged} (Passes h t) (Faulty fault rest) = sym p ∙ q in cc

pub not_refused : (input : List ℕ) (host : HostOf) (lines : List LineOf) (refusal : Refusal) (rest : List ℕ) → HasHostAndScript input host lines → HasSaveRefusal input refusal rest → IsOfInput refusal → ⊥
not_refused input host lines (refusals.Image place cause) rest h refused it = no_fault input host h.text rest (place, cause) h.image refused
not_refused input host lines (refusals.BadLine line) rest h (bad, is) it =
    let same = same_text input bad.host host bad.text h.text bad.image h.image in
    never_both h.text lines line h.script (subst (λ t. IsBadLine t line) same bad.bad)
not_refused input host lines refusals.TooLong rest h long it =
    let same = same_text input long.host host long.text h.text long.image h.image in
    let n : length long.text ≡ length h.text = ap (λ (t : List ℕ). length t) same in
    let many = long.many in
    let few = h.few in
    omega (arith, n, many, few)
not_refused input host lines (refusals.Pause unsound) rest h refused it = it
not_refused input host lines _ rest h refused it = refused

-- what is refused then is the host at the pause
pub paused : (input : List ℕ) (host : HostOf) (lines : List LineOf) (refusal : Refusal) (rest : List ℕ) → HasHostAndScript input host lines → HasSaveRefusal input refusal rest → (unsound : Unsound) × HasUnsoundPause input unsound
paused input host lines (refusals.Pause unsound) rest h (pause, is) = (unsound, pause)
paused input host lines (refusals.Image place cause) rest h refused = absurd (not_refused input host lines (refusals.Image place cause) rest h refused tt)
paused input host lines (refusals.BadLine line) rest h refused = absurd (not_refused input host lines (refusals.BadLine line) rest h refused tt)
paused input host lines refusals.TooLong rest h refused = absurd (not_refused input host lines refusals.TooLong rest h refused tt)
paused input host lines _ rest h refused = absurd refused
