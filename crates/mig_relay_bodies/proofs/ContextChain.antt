-- What is known of a context behind a head, and behind a piece.
use Rattle.mig_relay_bodies.proofs.Common.{◌≡◌, ◌≢◌, ℕ, ◌+◌, ◌<◌, ◌≤◌, List, [], ◌++◌, length, true, Some, None, sym, ap, subst, ◌∙◌, arith, append_assoc, append-nil, length-append, common_steps, le32, scan, HeaderSize, in32, Chain, Entry, IsHeaderFault, IsBegunContext, not_header, not_sized, Ok, Err, le16, NoHeader, ShortEntry, NoEnd, scan_is, in16, past16, past32, fault_of_scanned, ChainSays, IsAhead, chain_piece}
use Rattle.mig_headers.specs.Contexts.{ChainTo, fault_at, is_last}
use Rattle.mig_headers.specs.declared.fault.ContextFault.{ContextFault}

-- ---- a chain that was followed up to here

pub faulty_here : (bytes : List ℕ) (at : ℕ) (f : ContextFault) → ChainTo bytes at → fault_at bytes at ≡ Some f → fault_of_scanned (scan bytes) ≡ Some f
faulty_here bytes at f chain fault = ap fault_of_scanned (sym (scan_is bytes (Err f) (at, chain, fault)))

pub ends_here : (bytes : List ℕ) (at : ℕ) → ChainTo bytes at → fault_at bytes at ≡ None → is_last bytes at ≡ true → fault_of_scanned (scan bytes) ≡ None
ends_here bytes at chain fine last = ap fault_of_scanned (sym (scan_is bytes (Ok at) (chain, fine, last)))

-- ---- a head

module _ (bytes : List ℕ) (at len : ℕ) (size : length bytes ≡ len) (fits : at + 8 ≤ len) where
  pub no_header : at ≡ 0 → le16 bytes at ≢ 1 → fault_at bytes at ≡ Some NoHeader
  unfolding fault_at
  no_header zero other = grind (arith, common_steps, size, fits, zero, other)

  pub header_size : at ≡ 0 → le16 bytes at ≡ 1 → le32 bytes (at + 4) ≢ 24 → fault_at bytes at ≡ Some (HeaderSize (le32 bytes (at + 4)))
  unfolding fault_at
  header_size zero one other = grind (arith, common_steps, size, fits, zero, one, other)

  pub fine_end : (at ≡ 0 → le16 bytes at ≡ 1) → le16 bytes at ≡ 0 → fault_at bytes at ≡ None
  unfolding fault_at
  fine_end header last = grind (arith, common_steps, size, fits, header, last)

  pub short_entry : (at ≡ 0 → le16 bytes at ≡ 1) → (at ≡ 0 → le32 bytes (at + 4) ≡ 24) → le16 bytes at ≢ 0 → len < at + 8 + le32 bytes (at + 4) → fault_at bytes at ≡ Some (ShortEntry at)
  unfolding fault_at
  short_entry header sized goes short = grind (arith, common_steps, size, fits, header, sized, goes, short)

  pub fine_entry : (at ≡ 0 → le16 bytes at ≡ 1) → (at ≡ 0 → le32 bytes (at + 4) ≡ 24) → le16 bytes at ≢ 0 → at + 8 + le32 bytes (at + 4) ≤ len → fault_at bytes at ≡ None
  unfolding fault_at
  fine_entry header sized goes whole = grind (arith, common_steps, size, fits, header, sized, goes, whole)

  pub header_faulty : (typecode n : ℕ) (f : ContextFault) → typecode ≡ le16 bytes at → n ≡ le32 bytes (at + 4) → IsHeaderFault at typecode n f → fault_at bytes at ≡ Some f
  header_faulty typecode n _ code len_is (not_header zero not_one) = no_header zero (λ e. not_one (code ∙ e))
  header_faulty typecode n _ code len_is (not_sized zero one not_24) = header_size zero (sym code ∙ one) (λ e. not_24 (len_is ∙ e)) ∙ ap (λ m. Some (HeaderSize m)) (sym len_is)

-- ---- a piece

-- fields of bytes that stand behind others
pub le16_behind : (begun piece more : List ℕ) (at : ℕ) → at ≡ length begun → length piece ≡ 8 → le16 (begun ++ (piece ++ more)) at ≡ le16 piece 0
le16_behind begun piece more at is size =
    ap (le16 (begun ++ (piece ++ more))) (let e : at ≡ length begun + 0 = omega (arith, is) in e) ∙ past16 begun (piece ++ more) 0 ∙ in16 piece more 0 (omega (arith, size))

pub le32_behind : (begun piece more : List ℕ) (at : ℕ) → at ≡ length begun → length piece ≡ 8 → le32 (begun ++ (piece ++ more)) (at + 4) ≡ le32 piece 4
le32_behind begun piece more at is size =
    ap (λ n. le32 (begun ++ (piece ++ more)) (n + 4)) is ∙ past32 begun (piece ++ more) 4 ∙ in32 piece more 4 (omega (arith, size))

-- the piece is the head of the next entry
pub head_known : (chain : Chain) (begun piece : List ℕ) (at len : ℕ) → at ≡ length begun → length piece ≡ 8 → at + 8 ≤ len → IsAhead chain (at + 8) len
    → ((bytes : List ℕ) → length bytes ≡ len → ChainTo bytes at → le16 piece 0 ≡ le16 bytes at → le32 piece 4 ≡ le32 bytes (at + 4) → ChainSays chain bytes)
    → IsBegunContext (Entry at) len begun → IsBegunContext chain len (begun ++ piece)
head_known chain begun piece at len is size room ahead head known = record {
  says = λ more whole.
      let same : (begun ++ piece) ++ more ≡ begun ++ (piece ++ more) = append_assoc begun piece more in
      subst (ChainSays chain) (sym same)
      (head (begun ++ (piece ++ more)) (ap length (sym same) ∙ whole) (known.says (piece ++ more) (ap length (sym same) ∙ whole)) (sym (le16_behind begun piece more at is size)) (sym (le32_behind begun piece more at is size)));
  ahead = subst (λ n. IsAhead chain n len) (let e : at + 8 ≡ length (begun ++ piece) = omega (arith, length-append begun piece, is, size) in e) ahead;
}

-- a head is taken where 8 bytes are left
pub room_for : (chain : Chain) (at taken len n : ℕ) → chain ≡ Entry at → at ≡ taken → n ≡ chain_piece chain taken len → n ≡ 8 → at + 8 ≤ len
room_for chain at taken len n is reached size eight = fits (subst (λ (k : Chain). n ≡ chain_piece k taken len) is size)
  where
    fits : n ≡ chain_piece (Entry at) taken len → at + 8 ≤ len
    fits same = grind (arith, common_steps, same, reached, eight)

-- ---- the whole context

pub at_end : (body : List ℕ) (at : ℕ) → ChainTo body at → at ≡ length body → at ≡ 0 → fault_of_scanned (scan body) ≡ Some NoHeader
unfolding fault_at
at_end body at chain whole zero = faulty_here body at NoHeader chain (fault body at whole zero)
  where
    fault : (bytes : List ℕ) (o : ℕ) → o ≡ length bytes → o ≡ 0 → fault_at bytes o ≡ Some NoHeader
    fault bytes o whole zero = grind (arith, common_steps, whole, zero)

pub no_end : (body : List ℕ) (at : ℕ) → ChainTo body at → at ≡ length body → at ≢ 0 → fault_of_scanned (scan body) ≡ Some NoEnd
unfolding fault_at
no_end body at chain whole some = faulty_here body at NoEnd chain (fault body at whole some)
  where
    fault : (bytes : List ℕ) (o : ℕ) → o ≡ length bytes → o ≢ 0 → fault_at bytes o ≡ Some NoEnd
    fault bytes o whole some = grind (arith, common_steps, whole, some)

pub short_end : (body : List ℕ) (at : ℕ) → ChainTo body at → at < length body → length body < at + 8 → fault_of_scanned (scan body) ≡ Some (ShortEntry at)
unfolding fault_at
short_end body at chain some short = faulty_here body at (ShortEntry at) chain (fault body at some short)
  where
    fault : (bytes : List ℕ) (o : ℕ) → o < length bytes → length bytes < o + 8 → fault_at bytes o ≡ Some (ShortEntry o)
    fault bytes o some short = grind (arith, common_steps, some, short)

pub whole_says : (chain known : Chain) (len : ℕ) (body : List ℕ) → chain ≡ known → length body ≡ len → IsBegunContext chain len body → ChainSays known body
whole_says chain known len body is whole b =
    subst (λ l. ChainSays known l) (append-nil body) (subst (λ (k : Chain). ChainSays k (body ++ [])) is (b.says [] (ap length (append-nil body) ∙ whole)))

-- the head of the last entry isn't whole
pub last_ahead : (chain : Chain) (at len : ℕ) (body : List ℕ) → chain ≡ Entry at → length body ≡ len → IsBegunContext chain len body → (at ≡ len → ⊥) → (at < length body) × (length body < at + 8)
last_ahead chain at len body is whole b other =
    let ahead : IsAhead (Entry at) (length body) len = subst (λ (k : Chain). IsAhead k (length body) len) is b.ahead in
    grind (arith, common_steps, whole, ahead, other)
