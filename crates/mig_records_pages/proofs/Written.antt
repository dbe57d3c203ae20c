-- Records that were written join, and so does a part of one more.
use Rattle.std.proofs.Common.{◌≡◌, ℕ, List, [], ◌∷◌, ◌++◌, take, Option, Result, Ok, Err, OnErr, sym, ap, subst, ◌∙◌, arith, append_assoc, append-nil}
use Rattle.mig_records_pages.proofs.Common.{flat_map-append, Appends, Appends-trans, Appends-nil, WriteFailed, AppendsPart, Puts}
use Rattle.mig_records.specs.Records.{head_of, spelled, Record, text_of}
use Rattle.mig_records_pages.specs.Written.{IsShortRecord, IsRecordWithin, AreRecordsWithin, WroteAll, WroteSome, JoinsRecords, LeavesPart}

-- ---- one record more

within_more : (rs : List Record) (r : Record) → AreRecordsWithin rs → IsRecordWithin r → AreRecordsWithin (rs ++ r ∷ [])
within_more [] r p is = (is, tt)
within_more (q ∷ rs) r p is = (p.0, within_more rs r p.1 is)

text_more : (rs : List Record) (r : Record) → text_of (rs ++ r ∷ []) ≡ text_of rs ++ spelled r.0 r.1
text_more rs r = flat_map-append (λ (q : Record). spelled q.0 q.1) rs (r ∷ []) ∙ ap (λ l. text_of rs ++ l) (append-nil (spelled r.0 r.1))

-- a record that wasn't written whole
pub record_fails : (r : Record) (start old new : Option (List ℕ)) (rs : List Record) → IsShortRecord r → WroteAll start old rs → AppendsPart old new (spelled r.0 r.1) → WroteSome start new rs
record_fails r start old new rs short w p = record {
  next = r;
  short = short;
  n = p.0;
  less = p.1;
  appended = Appends-trans start old new _ _ w.appended p.2;
  within = w.within;
}

pub record_joins : {X : Type 0} (r : Record) (old new : Option (List ℕ)) (result : Result X WriteFailed) → IsRecordWithin r → Puts (spelled r.0 r.1) old new result → JoinsRecords r old new result
record_joins r old new (Ok x) is p = λ start rs w. record {
  appended = subst (Appends start new) (sym (text_more rs r)) (Appends-trans start old new _ _ w.appended p);
  within = within_more rs r w.within is;
}
record_joins r old new (Err e) is p = λ start rs w. record_fails r start old new rs is.short w p

-- ---- END

end_short : IsShortRecord (0, [])
end_short = record { type = omega arith; len = omega arith }

pub end_fails : {X : Type 0} (old new : Option (List ℕ)) (result : Result X WriteFailed) → Puts (spelled 0 []) old new result → OnErr result (LeavesPart old new)
end_fails old new (Ok x) p = tt
end_fails old new (Err e) p = λ start rs w. record_fails (0, []) start old new rs end_short w p

-- nothing of the next record was written
pub none_of_next : (start now : Option (List ℕ)) (rs : List Record) → WroteAll start now rs → WroteSome start now rs
unfolding spelled head_of
none_of_next start now rs w = record {
  next = (0, []);
  short = end_short;
  n = 0;
  less = omega arith;
  appended = subst (Appends start now) (sym (append-nil (text_of rs))) w.appended;
  within = w.within;
}

-- ---- records behind records

within_both : (rs ss : List Record) → AreRecordsWithin rs → AreRecordsWithin ss → AreRecordsWithin (rs ++ ss)
within_both [] ss p q = q
within_both (r ∷ rs) ss p q = (p.0, within_both rs ss p.1 q)

text_both : (rs ss : List Record) → text_of (rs ++ ss) ≡ text_of rs ++ text_of ss
text_both rs ss = flat_map-append (λ (q : Record). spelled q.0 q.1) rs ss

module _ (start from now : Option (List ℕ)) (rs ss : List Record) (w : WroteAll start from rs) where
  pub all_behind : WroteAll from now ss → WroteAll start now (rs ++ ss)
  all_behind v = record {
    appended = subst (Appends start now) (sym (text_both rs ss)) (Appends-trans start from now _ _ w.appended v.appended);
    within = within_both rs ss w.within v.within;
  }

  pub some_behind : WroteSome from now ss → WroteSome start now (rs ++ ss)
  some_behind p =
      let part : List ℕ = take p.n (spelled p.next.0 p.next.1) in
      record {
        next = p.next;
        short = p.short;
        n = p.n;
        less = p.less;
        appended = subst (Appends start now) (sym (append_assoc (text_of rs) (text_of ss) part) ∙ ap (λ l. l ++ part) (sym (text_both rs ss))) (Appends-trans start from now _ _ w.appended p.appended);
        within = within_both rs ss w.within p.within;
      }

-- nothing was written
pub nothing_written : (start : Option (List ℕ)) → WroteAll start start []
nothing_written start = record { appended = Appends-nil start; within = tt }
