-- An answer holds of each address.
use Rattle.mig_walk.proofs.Common.{◌≡◌, ℕ, ◌≤◌, zero, suc, List, Option, Some, None, is_some, refl, ap, subst, ◌∙◌, arith, inl, inr, option_and_then, ◌⊎◌, option_map, cases_eq, vcpu_key, Entry, level_of, some_value, Root, said_by, Standing, Walked, NoVcpu, NotCanonical, Absent, NotTable, slot_of, IsCanonical, IsTableOf, IsWalked, IsWalkedOnce, CanBeWalked, IsReached, by_root, no_vcpu, not_canonical}
use Rattle.std.specs.Prelude.{◌/◌, ◌^◌}
use Rattle.mig_walk.specs.declared.walk.Walked.TheVariants.{Frame}
use Rattle.mig_walk.proofs.OneAnswer.{one_answer}
use Rattle.mig_walk.proofs.Steps.{ends_at_other, ends_absent, ends_at_frame, goes_down}
use Rattle.std.specs.FinMap as maps
use Rattle.mig_guest.specs.declared.table.Entry.TheVariants as entries

is_canonical : (address : ℕ) → IsCanonical address ⊎ (IsCanonical address → ⊥)
is_canonical address = elim (cases_eq (address / 2 ^ 47) 0) [
  | inl low ↦ inl (inl low)
  | inr some ↦ elim (cases_eq (address / 2 ^ 47) 0x1ffff) [
    | inl high ↦ inl (inr high)
    | inr other ↦ inr (λ is. elim is [ inl low ↦ some low | inr high ↦ other high ])
  ]
]

is_level : (o : Option ℕ) (level : ℕ) → (o ≡ Some level) ⊎ (o ≡ Some level → ⊥)
is_level None level = inr (λ is. cc)
is_level (Some n) level = elim (cases_eq n level) [
  | inl e ↦ inl (ap Some e)
  | inr ne ↦ inr (λ is. let e : n ≡ level = cc in ne e)
]

module _ (s : Standing) (vcpu address : ℕ) (ready : CanBeWalked s vcpu) where
  abbrev Answered : Type 0
  Answered = (answer : Walked) × IsWalked s vcpu address answer

  module _ (canonical : IsCanonical address) where
    -- by what the entry says: the way goes on, or it ends here
    by_said : (below : ℕ) → suc below ≤ 4 → (number : ℕ) → (at : IsReached s vcpu address (suc below) number) → IsTableOf s (suc below) at.pfn → ((n : ℕ) → IsReached s vcpu address below n → Answered)
        → (e : Entry) → s.says at.pfn (slot_of address (suc below)) ≡ e → Answered
    by_said below most number at is on (entries.Frame n) says = on n (goes_down ready (suc below) below number at.pfn n (omega arith) most at at.named is says)
    by_said below most number at is on entries.Blank says = (Absent (suc below), ends_absent ready canonical (suc below) number at.pfn entries.Blank at at.named is says (λ n e. cc))
    by_said below most number at is on entries.NotPresent says = (Absent (suc below), ends_absent ready canonical (suc below) number at.pfn entries.NotPresent at at.named is says (λ n e. cc))
    by_said below most number at is on entries.Superpage says = (Absent (suc below), ends_absent ready canonical (suc below) number at.pfn entries.Superpage at at.named is says (λ n e. cc))

    -- from a frame that is reached the way comes to an end
    from : (level : ℕ) → level ≤ 4 → (number : ℕ) → IsReached s vcpu address level number → Answered
    from zero most number at =
        let (kind, has) = some_value (s.types at.pfn) (ready.typed number at.pfn at.named) in (Frame number kind, ends_at_frame ready canonical number at.pfn kind at at.named has)
    from (suc below) most number at = elim (is_level (option_and_then level_of (s.types at.pfn)) (suc below)) [
      | inr other ↦ (NotTable (suc below), ends_at_other ready canonical (suc below) number at.pfn (omega arith) most at at.named other)
      | inl is ↦ by_said below most number at is (λ n next. from below (omega arith) n next) (s.says at.pfn (slot_of address (suc below))) refl
    ]

  pub root_reached : (context : List ℕ) → maps.get s.parts (vcpu_key vcpu) ≡ Some context → IsReached s vcpu address 4 (said_by Root context)
  root_reached context there =
      let (pfn, names, is) = ready.root context there in record { pfn = pfn; named = names; reached = by_root context pfn there names; top = λ _. is }

  -- ---- by what ctrlreg[3] names, where there is such a vCPU

  pub no_root : {o : Option ℕ} → None ≡ o → o ≡ option_map (said_by Root) (maps.get s.parts (vcpu_key vcpu)) → IsWalked s vcpu address NoVcpu
  no_root none root = no_vcpu (by_part (maps.get s.parts (vcpu_key vcpu)) (none ∙ root))
    where
      by_part : (o : Option (List ℕ)) → None ≡ option_map (said_by Root) o → o ≡ None
      by_part None none = refl
      by_part (Some context) none = cc

  some_context : (root : ℕ) (o : Option (List ℕ)) → Some root ≡ option_map (said_by Root) o → (context : List ℕ) × (o ≡ Some context) × (said_by Root context ≡ root)
  some_context root None some = cc
  some_context root (Some context) some = (context, refl, cc)

  pub root_apart : (root : ℕ) → Some root ≡ option_map (said_by Root) (maps.get s.parts (vcpu_key vcpu)) → (IsCanonical address → ⊥) → IsWalked s vcpu address NotCanonical
  root_apart root some isnt = let (context, there, is) = some_context root (maps.get s.parts (vcpu_key vcpu)) some in not_canonical (ap is_some there) isnt

  pub root_there : (root : ℕ) → Some root ≡ option_map (said_by Root) (maps.get s.parts (vcpu_key vcpu)) → IsReached s vcpu address 4 root
  root_there root some = let (context, there, is) = some_context root (maps.get s.parts (vcpu_key vcpu)) some in subst (IsReached s vcpu address 4) is (root_reached context there)

  -- ---- an answer

  by_context : (o : Option (List ℕ)) → maps.get s.parts (vcpu_key vcpu) ≡ o → Answered
  by_context None there = (NoVcpu, no_vcpu there)
  by_context (Some context) there = elim (is_canonical address) [
    | inl is ↦ from is 4 (omega arith) (said_by Root context) (root_reached context there)
    | inr isnt ↦ (NotCanonical, not_canonical (ap is_some there) isnt)
  ]

  pub some_answer : Answered
  some_answer = by_context (maps.get s.parts (vcpu_key vcpu)) refl

  pub walked_once : ((n m pfn : ℕ) → s.names n ≡ Some pfn → s.names m ≡ Some pfn → n ≡ m) → IsWalkedOnce s vcpu address
  walked_once one_name =
      let (answer, holds) = some_answer in (answer, holds, λ other also. one_answer s vcpu address one_name other answer also holds)
