-- The fault of a PV guest at the end of its stream is the first of what is wrong with it there.
use Rattle.mig_host_laws.proofs.Common.{◌⊎◌, number_of_cause, Cause, Unsound, number_of_unsound, ◌≡◌, inl, inr, ℕ, ◌+◌, ◌/◌, ◌%◌, ◌<◌, ◌≤◌, length, nat_lt, true, refl, sym, ap, subst, arith, ltb-true, lt-ltb, GuestOf, Pv, fault_of_guest, first_cause, IsNamedBefore, NamesFirst, in_stream, cause_in_stream, is_left_at_end, IsWrongAtEnd, TooManyFrames, most_frames}
use Rattle.mig_host_laws.specs.Unsoundness.IsWrongAtEnd.{stands_wrong, many_frames}
use Rattle.mig_host_laws.proofs.Instances.{rows_left, fault_is_row, left_first}
use Rattle.mig_host_laws.proofs.Rows.{Left}
use Rattle.std.specs.FinMap as maps
use Rattle.mig_headers.specs.declared.unsound.Unsound.TheVariants as causes
use Rattle.mig_host_laws.proofs.NamedFirst as firsts

-- the numbers of the rows that are left, and of their causes
record IsCounted (row : Unsound) : Type 0 where
  least : 1 ≤ number_of_unsound row
  even : (number_of_unsound row ≡ 1) ⊎ (number_of_unsound row % 2 ≡ 0)
  most : number_of_unsound row ≤ 6
  told : number_of_cause (cause_in_stream row) ≡ 27 + number_of_unsound row / 2

counted : (row : Unsound) → is_left_at_end row ≡ true → IsCounted row
counted (causes.Missing code) left = record { least = omega arith; even = inl refl; most = omega arith; told = refl }
counted (causes.P2mFrame k) left = record { least = omega arith; even = inr refl; most = omega arith; told = refl }
counted (causes.NoFrame pfn slot) left = record { least = omega arith; even = inr refl; most = omega arith; told = refl }
counted (causes.VcpuFrame id field) left = record { least = omega arith; even = inr refl; most = omega arith; told = refl }
counted (causes.Superpage pfn slot) left = cc
counted (causes.GdtEnts id ents) left = cc
counted (causes.BadContext fault) left = cc

below : (a b : ℕ) → 1 ≤ a → (b ≡ 1) ⊎ (b % 2 ≡ 0) → a < b → a / 2 < b / 2
below a b least (inl one) less = absurd (omega (arith, least, one, less))
below a b least (inr even) less = omega (arith, least, even, less)

module _ (g : GuestOf) (pv : g.kind ≡ Pv) where
  abbrev Has : ℕ → Unsound → Type 0
  Has = Left (in_stream g)

  keeps : (j k : ℕ) (c d : Unsound) → Has j c → Has k d → IsNamedBefore number_of_unsound j c k d → IsNamedBefore number_of_cause j (cause_in_stream c) k (cause_in_stream d)
  keeps j k c d h i (inl less) =
      let a = counted c h.0 in let b = counted d i.0 in let under = below (number_of_unsound c) (number_of_unsound d) a.least b.even less in inl (omega (arith, a.told, b.told, under))
  keeps j k c d h i (inr (same, less)) =
      let a = counted c h.0 in let b = counted d i.0 in let half = ap (λ n. n / 2) same in inr (omega (arith, a.told, b.told, half), less)

  abbrev Told : ℕ → Cause → Type 0
  Told = firsts.Told number_of_unsound number_of_cause cause_in_stream Has keeps

  abbrev Many : ℕ → Cause → Type 0
  Many = firsts.Alone number_of_cause (most_frames < length (maps.entries g.frames)) 0 TooManyFrames

  before : firsts.AllBefore number_of_cause Told Many
  before j k c d (row, (left, wrong), is) (_, _, named) =
      let a = counted row left in
      let last = ap number_of_cause named in
      let most = a.most in
      inl (omega (arith, ap number_of_cause is, a.told, most, last))

  to : (k : ℕ) (c : Cause) → firsts.Either number_of_cause Told Many k c → IsWrongAtEnd g k c
  to k c (inl (row, (left, wrong), is)) = subst (IsWrongAtEnd g k) (sym is) (stands_wrong k row left wrong)
  to k c (inr (many, at, is)) = subst (λ i. IsWrongAtEnd g i c) (sym at) (subst (IsWrongAtEnd g 0) (sym is) (many_frames many))

  from : (k : ℕ) (c : Cause) → IsWrongAtEnd g k c → firsts.Either number_of_cause Told Many k c
  from _ _ (stands_wrong place row left wrong) = inl (row, (left, wrong), refl)
  from _ _ (many_frames many) = inr (many, refl, refl)

  pub fault_named : NamesFirst number_of_cause (IsWrongAtEnd g) (fault_of_guest g)
  fault_named =
      subst (NamesFirst number_of_cause (IsWrongAtEnd g)) (sym (fault_is_row g pv))
      (firsts.turned number_of_cause (firsts.Either number_of_cause Told Many) (IsWrongAtEnd g) _
      (firsts.both number_of_cause Told Many _ _ before
      (firsts.told_names number_of_unsound number_of_cause cause_in_stream Has keeps (first_cause (rows_left g)) (left_first g))
      (firsts.alone number_of_cause _ 0 TooManyFrames (nat_lt most_frames (length (maps.entries g.frames))) (λ h. ltb-true _ _ h) (λ h. lt-ltb _ _ h)))
      to from)
