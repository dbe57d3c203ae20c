-- Bodies of which only the length is asked, and what each type of record is judged by.
use Rattle.mig_relay_bodies.proofs.Common.{◌≡◌, ◌≢◌, ℕ, ◌+◌, ◌*◌, true, false, not, nat_eq, List, [], ◌∷◌, length, Option, Some, None, refl, sym, ap, subst, ◌∙◌, arith, inl, ◌/◌, option_or, eq-eqb, fault_of_entries, fault_of_table, first_fault, Cause, BadLength, IsKnown, Entry, Entries, Verdict, ◌%◌, layout, CpuidLeaf, Msr, Truncated}
use Rattle.std.proofs.lemmas.Bool.{and_parts, eqb-true}
use Rattle.mig_bytes.proofs.Joins.{part_whole}
use Rattle.mig_bytes.specs.Judged.{Judged, ◌>>=◌, part, tried, said_at}
use Rattle.mig_bytes.specs.Judged.Judged.{Passes, Faulty}
use Rattle.mig_bytes.specs.Walk.Reaches.{here}
use Rattle.mig_headers.proofs.RecordNumbers.{numbers_are_inverse, mandatory}
use Rattle.mig_headers.specs.RecordTypes.{record_row_of, type_number, type_of_number, is_optional}
use Rattle.mig_headers.specs.declared.kind.Kind.{Kind}
use Rattle.mig_headers.specs.declared.record_type.RecordType.{RecordType}
use Rattle.mig_headers.specs.declared.record_type.RecordType.TheVariants.{End, PageData, X86PvInfo, X86PvP2mFrames, X86PvVcpuBasic, X86PvVcpuExtended, X86PvVcpuXsave, SharedInfo, X86TscInfo, HvmContext, HvmParams, Toolstack, X86PvVcpuMsrs, Verify, Checkpoint, CheckpointDirtyPfnList, StaticDataEnd, X86CpuidPolicy, X86MsrPolicy}
use Rattle.mig_order.specs.Order.{IsInOrder}
use Rattle.mig_order.specs.Order.IsInOrder.{optional, ordered}
use Rattle.mig_restore_form.proofs.Bodies.{optional_at, type_at}
use Rattle.mig_restore_form.proofs.Laws.{fields_fine}
use Rattle.mig_restore_form.specs.Judging.{typed_at, body_at}
use Rattle.mig_restore_form.specs.Record.{Content}
use Rattle.mig_restore_form.specs.Record.Content.{Nothing}
use Rattle.mig_records.specs.Faults.{type_allows}
use Rattle.mig_relay_bodies.specs.Bodies.{fault_of_typed, fault_of_record_body, typed_content, record_content}
use Rattle.mig_relay_bodies.specs.Laws.{BodiesAreParts}
use Rattle.mig_records.proofs.Rows.{no_key_fault}

-- ---- bodies of which only the length is asked

length_fits : (len wanted : ℕ) → len ≡ wanted → first_fault ((not (nat_eq len wanted), BadLength len) ∷ []) ≡ None
length_fits len wanted is = let e : nat_eq len wanted ≡ true = eq-eqb len wanted is in rw e refl

-- no key of the entries is refused
cpuid_fine : (body : List ℕ) → length body % 24 ≡ 0 → fault_of_table CpuidLeaf (layout false 4 4 16) body ≡ None
cpuid_fine body whole =
    ap (λ o. option_or o (fault_of_entries CpuidLeaf (layout false 4 4 16) (length body / 24) body)) (length_fits (length body) (0 + 24 * (length body / 24)) (omega (arith, whole)))
    ∙ no_key_fault CpuidLeaf (layout false 4 4 16) (λ _ _. refl) (length body / 24) body

msr_fine : (body : List ℕ) → length body % 16 ≡ 0 → fault_of_table Msr (layout false 4 0 12) body ≡ None
msr_fine body whole =
    ap (λ o. option_or o (fault_of_entries Msr (layout false 4 0 12) (length body / 16) body)) (length_fits (length body) (0 + 16 * (length body / 16)) (omega (arith, whole)))
    ∙ no_key_fault Msr (layout false 4 0 12) (λ _ _. refl) (length body / 16) body

-- a type that isn't among those whose bodies are looked into
pub record IsPlain (this : RecordType) : Type 0 where
  pub info : this ≢ X86PvInfo
  pub frames : this ≢ X86PvP2mFrames
  pub basic : this ≢ X86PvVcpuBasic
  pub extended : this ≢ X86PvVcpuExtended
  pub xsave : this ≢ X86PvVcpuXsave
  pub msrs : this ≢ X86PvVcpuMsrs
  pub context : this ≢ HvmContext
  pub params : this ≢ HvmParams

pub plain_fine : (this : RecordType) (body : List ℕ) → IsPlain this → (record_row_of this).allows (length body) ≡ true → fault_of_typed (Some this) body ≡ None
plain_fine X86PvInfo body plain allowed = absurd (plain.info refl)
plain_fine X86PvP2mFrames body plain allowed = absurd (plain.frames refl)
plain_fine X86PvVcpuBasic body plain allowed = absurd (plain.basic refl)
plain_fine X86PvVcpuExtended body plain allowed = absurd (plain.extended refl)
plain_fine X86PvVcpuXsave body plain allowed = absurd (plain.xsave refl)
plain_fine X86PvVcpuMsrs body plain allowed = absurd (plain.msrs refl)
plain_fine HvmContext body plain allowed = absurd (plain.context refl)
plain_fine HvmParams body plain allowed = absurd (plain.params refl)
plain_fine SharedInfo body plain allowed = length_fits (length body) 4096 (eqb-true (length body) 4096 allowed)
plain_fine X86TscInfo body plain allowed = length_fits (length body) 24 (eqb-true (length body) 24 allowed)
plain_fine X86CpuidPolicy body plain allowed = cpuid_fine body (eqb-true (length body % 24) 0 (and_parts _ _ allowed).0)
plain_fine X86MsrPolicy body plain allowed = msr_fine body (eqb-true (length body % 16) 0 (and_parts _ _ allowed).0)
plain_fine End body plain allowed = refl
plain_fine PageData body plain allowed = refl
plain_fine Toolstack body plain allowed = refl
plain_fine Verify body plain allowed = refl
plain_fine Checkpoint body plain allowed = refl
plain_fine CheckpointDirtyPfnList body plain allowed = refl
plain_fine StaticDataEnd body plain allowed = refl

pub plain_known : (this : RecordType) (len : ℕ) → IsPlain this → (record_row_of this).allows len ≡ true → IsKnown (Verdict None) len (fault_of_typed (Some this)) []
plain_known this len plain allowed = record {
  stands = tt;
  says = λ body whole. plain_fine this body plain (ap (record_row_of this).allows whole ∙ allowed);
}

-- an HVM context before its first byte
pub context_known : (this : RecordType) (len : ℕ) → this ≡ HvmContext → IsKnown (Entries (Entry 0)) len (fault_of_typed (Some this)) []
context_known this len is = subst (λ (t : RecordType). IsKnown (Entries (Entry 0)) len (fault_of_typed (Some t)) []) (sym is) (record {
  stands = record { says = λ body whole. here; ahead = (omega arith, inl (omega arith)) };
  says = λ body whole. refl;
})

-- ---- the body of each record is a part

-- parts with the same causes that say the same
said_same : (fault g : List ℕ → Option Cause) (says s : List ℕ → Content) (n : ℕ) (i : List ℕ) → ((b : List ℕ) → fault b ≡ g b) → ((b : List ℕ) → says b ≡ s b) → said_at Truncated fault says n i ≡ said_at Truncated g s n i
said_same fault g says s n i faults contents = by (part Truncated n i)
  where
    by : (j : Judged Cause (List ℕ)) → (j >>= λ b. tried (fault b.0) b.1 >>= λ _. Passes (says b.0) b.1) ≡ (j >>= λ b. tried (g b.0) b.1 >>= λ _. Passes (s b.0) b.1)
    by (Faulty c rest) = refl
    by (Passes b rest) = ap (λ o. tried o rest >>= λ _. Passes (says b) rest) (faults b) ∙ ap (λ c. tried (g b) rest >>= λ _. Passes c rest) (contents b)

-- no bytes
mark_at : (len : ℕ) (i : List ℕ) → nat_eq len 0 ≡ true → Passes Nothing i ≡ said_at Truncated (λ _. None) (λ _. Nothing) len i
mark_at len i none =
    ap (λ (j : Judged Cause (List ℕ)). j >>= λ b. tried None b.1 >>= λ _. Passes Nothing b.1) (sym (part_whole Truncated 0 [] i refl))
    ∙ ap (λ n. said_at Truncated (λ _. None) (λ _. Nothing) n i) (sym (eqb-true len 0 none))

module _ (kind : Kind) (top len : ℕ) (i : List ℕ) where
  typed_part : (this : RecordType) → this ≢ PageData → (record_row_of this).supported ≡ true → (record_row_of this).allows len ≡ true → typed_at kind top (Some this) len i ≡ said_at Truncated (fault_of_typed (Some this)) (typed_content (Some this)) len i
  typed_part PageData other supported allowed = absurd (other refl)
  typed_part End other supported allowed = mark_at len i allowed
  typed_part Verify other supported allowed = mark_at len i allowed
  typed_part StaticDataEnd other supported allowed = mark_at len i allowed
  typed_part Toolstack other supported allowed = absurd (cc)
  typed_part Checkpoint other supported allowed = absurd (cc)
  typed_part CheckpointDirtyPfnList other supported allowed = absurd (cc)
  typed_part X86PvInfo other supported allowed = refl
  typed_part X86PvP2mFrames other supported allowed = refl
  typed_part X86PvVcpuBasic other supported allowed = refl
  typed_part X86PvVcpuExtended other supported allowed = refl
  typed_part X86PvVcpuXsave other supported allowed = refl
  typed_part X86PvVcpuMsrs other supported allowed = refl
  typed_part SharedInfo other supported allowed = refl
  typed_part X86TscInfo other supported allowed = refl
  typed_part HvmContext other supported allowed = refl
  typed_part HvmParams other supported allowed = refl
  typed_part X86CpuidPolicy other supported allowed = refl
  typed_part X86MsrPolicy other supported allowed = refl

  body_part : (version : ℕ) (types : List ℕ) (type : ℕ) → IsInOrder version kind types type → type_allows (type_of_number type) len ≡ true → type ≢ 1
      → body_at kind top type len i ≡ said_at Truncated (fault_of_record_body type) (record_content type) len i
  body_part version types type (optional above) allowed other =
      optional_at kind top type len i above ∙ said_same (λ _. None) (fault_of_record_body type) (λ _. Nothing) (record_content type) len i (λ b. rw is refl) (λ b. rw is refl)
    where
      is : is_optional type ≡ true
      is = grind (arith, above)
  body_part version types type (ordered this is supported of_kind keeps) allowed other =
      subst (λ t. body_at kind top t len i ≡ said_at Truncated (fault_of_record_body t) (record_content t) len i) (sym is)
      (type_at kind top this len i ∙ typed_part this not_pages supported (subst (λ o. type_allows o len ≡ true) found allowed)
      ∙ said_same (fault_of_typed (Some this)) (fault_of_record_body (type_number this)) (typed_content (Some this)) (record_content (type_number this)) len i
      (λ b. rw (mandatory this, numbers_are_inverse.type_of this) refl) (λ b. rw (mandatory this, numbers_are_inverse.type_of this) refl))
    where
      not_pages : this ≢ PageData
      not_pages pages = other (is ∙ ap type_number pages)

      found : type_of_number type ≡ Some this
      found = ap type_of_number is ∙ numbers_are_inverse.type_of this

pub bodies_are_parts : BodiesAreParts
bodies_are_parts b type len fine other i =
    let f = fields_fine b type len fine in
    body_part b.opening.kind b.top len i b.opening.version b.types type f.ordered f.allowed other
