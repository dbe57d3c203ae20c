-- What is known behind a piece more, and of the whole body.
use Rattle.mig_relay_bodies.proofs.Common.{◌≡◌, ℕ, ◌+◌, ◌-◌, ◌*◌, ◌<◌, ◌^◌, min, List, [], ◌∷◌, ◌++◌, length, drop, fold, Option, sym, ap, subst, ◌∙◌, arith, append_assoc, append-nil, length-append, length-drop, option_or, ◌/◌, drop-append-le, fault_of_entries, fault_of_content, VcpuBasic, HvmParam, scan, Cause, pairs_fault, piece_of, params, IsKnown, IsBegunContext, no_bytes, then_byte, Chain, BodyForm, Knows, Nothing, Entries, Texts, Params, Basic, Verdict, Pairs, fault_of_scan, piece_len, fault_behind, IsBegunBody}
use Rattle.std.proofs.lemmas.List.Sums.{fold-append}
use Rattle.mig_relay_bodies.specs.declared.body.BodySeen.{BodySeen}
use Rattle.mig_relay_bodies.proofs.Fronts.{none_left, or_none, params_further}
use Rattle.mig_relay_bodies.proofs.FirstPieces.{KnownFirst, FirstOf}

-- ---- what is known of a body, and its next piece

pub known_as : (seen : BodySeen) (knows : Knows) (fault : List ℕ → Option Cause) (begun : List ℕ) → seen.knows ≡ knows → IsBegunBody seen fault begun → IsKnown knows seen.len fault begun
known_as seen knows fault begun is b = subst (λ (k : Knows). IsKnown k seen.len fault begun) is b.known

pub size_as : (seen : BodySeen) (knows : Knows) (fault : List ℕ → Option Cause) (begun piece : List ℕ) → seen.knows ≡ knows → IsBegunBody seen fault begun → length piece ≡ piece_len seen → length piece ≡ piece_of knows (length begun) seen.len
size_as seen knows fault begun piece is b size = size ∙ ap (λ (k : Knows). piece_of k seen.taken seen.len) is ∙ ap (λ n. piece_of knows n seen.len) b.taken

-- a body that goes on with a piece, and then in some way
module _ (len : ℕ) (begun piece more : List ℕ) where
  same : (begun ++ piece) ++ more ≡ begun ++ (piece ++ more)
  same = append_assoc begun piece more

  longer : length ((begun ++ piece) ++ more) ≡ len → length (begun ++ (piece ++ more)) ≡ len
  longer whole = ap length (sym same) ∙ whole

  left : length ((begun ++ piece) ++ more) ≡ len → length begun + length piece + length more ≡ len
  left whole = omega (arith, whole, length-append (begun ++ piece) more, length-append begun piece)

-- ---- behind a piece

module _ (len : ℕ) (fault : List ℕ → Option Cause) (begun piece : List ℕ) where
  pub first_behind : (form : BodyForm) (next : Knows) → KnownFirst form next len piece → IsKnown (Nothing form) len fault begun → length piece ≡ piece_of (Nothing form) (length begun) len → IsKnown next len fault (begun ++ piece)
  first_behind form next first known size =
      let none : begun ≡ [] = known.stands.0 in
      let start = subst (λ l. IsKnown (Nothing form) len fault l) none known in
      let then = first known.stands.1 (size ∙ ap (λ l. piece_of (Nothing form) (length l) len) none) in
      let now : IsKnown next len fault piece = record { stands = then.stands; says = λ more whole. start.says (piece ++ more) whole ∙ then.says more whole } in
      subst (λ l. IsKnown next len fault (l ++ piece)) (sym none) now

  pub verdict_behind : (v : Option Cause) → IsKnown (Verdict v) len fault begun → IsKnown (Verdict v) len fault (begun ++ piece)
  verdict_behind v known = record { stands = tt; says = λ more whole. ap fault (same len begun piece more) ∙ known.says (piece ++ more) (longer len begun piece more whole) }

  pub texts_behind : (named : Option Cause) (pairs next : Pairs) → len < 2 ^ 64 → length begun < len → (pairs.at + length piece < 2 ^ 64 → next ≡ fold then_byte pairs piece) → IsKnown (Texts named pairs) len fault begun
      → length piece ≡ piece_of (Texts named pairs) (length begun) len → IsKnown (Texts named next) len fault (begun ++ piece)
  texts_behind named pairs next short some is known size = record {
    stands = (
      omega (arith, known.stands.0, length-append begun piece),
      is (omega (arith, at, length-drop 8 begun, size, short, some, known.stands.0))
          ∙ ap (λ (p : Pairs). fold then_byte p piece) known.stands.1
          ∙ sym (fold-append then_byte no_bytes (drop 8 begun) piece)
          ∙ ap (fold then_byte no_bytes) (sym (drop-append-le 8 begun piece known.stands.0)),
    );
    says = λ more whole. subst (λ l. fault l ≡ option_or (pairs_fault (drop 8 l)) named) (sym (same len begun piece more)) (known.says (piece ++ more) (longer len begun piece more whole));
  }
    where
      place : (p : Pairs) (bytes : List ℕ) → (fold then_byte p bytes).at ≡ p.at + length bytes
      place p [] = omega arith
      place p (b ∷ bs) = place (then_byte p b) bs ∙ omega arith

      at : pairs.at ≡ length (drop 8 begun)
      at = ap (λ (p : Pairs). p.at) known.stands.1 ∙ place no_bytes (drop 8 begun) ∙ omega arith

  pub params_behind : (first v next : Option Cause) → FirstOf piece v → next ≡ option_or first v → IsKnown (Params first) len fault begun → length piece ≡ piece_of (Params first) (length begun) len → IsKnown (Params next) len fault (begun ++ piece)
  params_behind first v next told is known size =
      let n = known.stands.0 in
      let fits = known.stands.1 in
      let here : length piece ≡ 16 * min n 256 = omega (arith, fits, size) in
      record {
        stands = (n - min n 256, omega (arith, fits, here, length-append begun piece));
        says = λ more whole.
            ap fault (same len begun piece more) ∙ known.says (piece ++ more) (longer len begun piece more whole)
            ∙ params_further first (min n 256) (n - min n 256) piece more here (omega (arith, left len begun piece more whole, fits, here))
            ∙ ap (λ o. option_or o (fault_of_entries HvmParam params (length more / 16) more)) (ap (option_or first) (sym (told (min n 256) here)) ∙ sym is);
      }

  pub basic_behind : (named v next : Option Cause) → ((front : List ℕ) → length front ≡ 4096 → length piece ≡ 1080 → v ≡ fault_of_content VcpuBasic (drop 8 (front ++ piece))) → next ≡ option_or named v
      → IsKnown (Basic named) len fault begun → length piece ≡ piece_of (Basic named) (length begun) len → IsKnown (Verdict next) len fault (begun ++ piece)
  basic_behind named v next told is known size =
      let here : length piece ≡ 1080 = omega (arith, known.stands.0, known.stands.1, size) in
      record {
        stands = tt;
        says = λ more whole.
            let none : more ≡ [] = none_left more (omega (arith, left len begun piece more whole, known.stands.0, known.stands.1, here)) in
            ap fault (same len begun piece more) ∙ known.says (piece ++ more) (longer len begun piece more whole)
            ∙ ap (λ l. option_or named (fault_of_content VcpuBasic (drop 8 (begun ++ (piece ++ l))))) none
            ∙ ap (λ l. option_or named (fault_of_content VcpuBasic (drop 8 (begun ++ l)))) (append-nil piece)
            ∙ ap (option_or named) (sym (told begun known.stands.0 here)) ∙ sym is;
      }

-- ---- the whole body

module _ (len : ℕ) (fault : List ℕ → Option Cause) (body : List ℕ) (whole : length body ≡ len) where
  at_end : (knows : Knows) → IsKnown knows len fault body → fault body ≡ fault_behind knows body []
  at_end knows known = ap fault (sym (append-nil body)) ∙ known.says [] (ap length (append-nil body) ∙ whole)

  pub entries_end : (chain : Chain) (v : Option Cause) → ((bytes : List ℕ) → length bytes ≡ len → IsBegunContext chain len bytes → v ≡ fault_of_scan (scan bytes)) → IsKnown (Entries chain) len fault body → v ≡ fault body
  entries_end chain v told known = told body whole known.stands ∙ ap (λ l. fault_of_scan (scan l)) (sym (append-nil body)) ∙ sym (at_end (Entries chain) known)

  pub texts_end : (named v r : Option Cause) (pairs : Pairs) → ((bytes : List ℕ) → pairs ≡ fold then_byte no_bytes bytes → v ≡ pairs_fault bytes) → r ≡ option_or v named → IsKnown (Texts named pairs) len fault body → r ≡ fault body
  texts_end named v r pairs told is known =
      is ∙ ap (λ o. option_or o named) (told (drop 8 body) known.stands.1) ∙ ap (λ l. option_or (pairs_fault (drop 8 l)) named) (sym (append-nil body)) ∙ sym (at_end (Texts named pairs) known)

  pub params_end : (first : Option Cause) → IsKnown (Params first) len fault body → first ≡ fault body
  params_end first known = sym (or_none first) ∙ sym (at_end (Params first) known)

  pub verdict_end : (v : Option Cause) → IsKnown (Verdict v) len fault body → v ≡ fault body
  verdict_end v known = sym (at_end (Verdict v) known)
