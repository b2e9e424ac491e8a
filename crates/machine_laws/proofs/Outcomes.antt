-- What every outcome of a procedure has in common, case by case.
use Rattle.std.proofs.Common.{◌≡◌, ◌+◌, int_eq, ℕ, ℤ, List, [], ◌∷◌, ◌++◌, Bool, true, false, cond, ◌||◌, refl, sym, ap, ◌∙◌, subst, ◌⊎◌, inl, inr, Option, Some, None, IsTrue, is_some}
use Rattle.std.proofs.lemmas.Bool.{and_parts, both_ways, not-true}
use Rattle.machine.specs.Effect.{AreRising, Conclusion, Effect, GoesOn, HasFailed, HasSucceeded, conclusion_of, effect}
use Rattle.machine.specs.Received.{Argument, BadValue, Component, Purge, Register, Route, Update}
use Rattle.machine.specs.Begins.{Initiator, end_of_begin, begins, begins_in, begins_named, begun, first_argument, is_allowed, procedure, purge, purge_at, route_component, update_begins, update_opened}
use Rattle.machine.specs.Sent.{CancellationType, Context, Out, PurgeResult, Rejection, SentError, UpdateProcedure, UpdateResult}
use Rattle.machine.specs.State.{Cancels, Data, Dialogue, Invocation, Kind, Local, OperationSent, Subscriber, Transaction, Updates, WaitForReject, Was, any_sent, is_sent}
use Rattle.machine.specs.Holders.{Holding, held_after, removed, served_by, serving, vlr_of_argument, vlr_of_kind}
use Rattle.machine.specs.Sound.{IsUpdate, IsUpdateOf, MarkNames, SoundRecord}
use Rattle.machine.specs.SmRoute.{NoRoute, RouteAnswer, RouteTo, sm_route}
use Rattle.machine.specs.Outcome.{Outcome, cancel, cancel_begin, continue_in_dialogue, end_in_dialogue, is_marked, unchanged, unmarked}
use Rattle.machine.specs.Contexts.{accepted}
use Rattle.machine.specs.Dialogues.{closes, continues, continues_as, goes_on, other_continues, update_completes, update_continues, update_done, update_fails}
use Rattle.machine.specs.Expiries.{current_register, expires, is_register, is_repeated, is_wanted, sent_expires, without}
use Rattle.machine.specs.Turns.{invocation_of}
use Rattle.machine.specs.Step.{named_stays, new_opens}
use Rattle.machine.specs.Keys.{put, same}
use Rattle.machine.specs.declared.numbers.TheConstants.{ROAMING_NOT_ALLOWED, SYSTEM_FAILURE, UNKNOWN_SUBSCRIBER}
use Rattle.machine_laws.proofs.Keys.{same_is, same_refl, is_same, not_same, same_not, put-same, put-other, put_cases, none_some, some_inj}
use Rattle.machine_laws.proofs.Rising.{rising_inserts, rising_after, rising_without}

-- what is sent changes no holder
abbrev pub Quiet : List Out → Type 0
Quiet out = (y : List ℕ) (is_y : Bool) (b : Option (List ℕ)) (h : Holding) (w : List ℕ) → held_after y is_y b out h w ≡ h w

-- the dialogues after
abbrev pub after_dialogues : (List ℕ → Option Dialogue) → Option (List ℕ) → List ℕ → Outcome → List ℕ → Option Dialogue
after_dialogues D i new o = new_opens new o.opens (named_stays i o.stays D)

pub record Like (x : List ℕ) (vlr : Option (List ℕ)) (d : Dialogue) : Type 0 where
  pub subscriber : d.subscriber ≡ x
  pub has_sent : any_sent d.invocations ≡ true
  pub vlr_is : vlr_of_kind d.kind ≡ vlr
  pub rising : AreRising d.invocations

-- y is another subscriber, or the turn's subscriber has no record
abbrev pub Other : Local → List ℕ → Type 0
Other L y = (same L.imsi y ≡ false) ⊎ (is_some L.record_of ≡ false)

pub other_is : (L : Local) (y : List ℕ) → IsTrue (is_some L.record_of) → Other L y → same L.imsi y ≡ false
other_is L y k (inl e) = e
other_is L y k (inr e) = absurd (both_ways _ e k)

pub record Good (L : Local) (D : List ℕ → Option Dialogue) (i : Option (List ℕ)) (began vlr : Option (List ℕ)) (new : List ℕ) (o : Outcome) : Type 0 where
  pub known : is_some o.after ≡ is_some L.record_of
  pub sound : (IsTrue (is_some o.opens) → D new ≡ None) → (s : Subscriber) → o.after ≡ Some s → SoundRecord (after_dialogues D i new o) L.imsi s
  pub stays : (d : Dialogue) → o.stays ≡ Some d → Like L.imsi began d
  pub opens : (d : Dialogue) → o.opens ≡ Some d → Like L.imsi vlr d × IsTrue (is_some L.record_of)
  pub alone : (d : Dialogue) (j : List ℕ) → o.opens ≡ Some d → i ≡ Some j → o.stays ≡ None
  pub holds : (w : List ℕ) → held_after L.imsi (is_some L.record_of) began o.sent (serving L.record_of) w ≡ serving o.after w
  pub others : (y : List ℕ) (b : Option (List ℕ)) (h : Holding) (w : List ℕ) → Other L y → held_after y false b o.sent h w ≡ h w

-- the record before is sound among the dialogues
abbrev pub SoundBefore : Local → (List ℕ → Option Dialogue) → Type 0
SoundBefore L D = (s : Subscriber) → L.record_of ≡ Some s → SoundRecord D L.imsi s

pub no_opens : {X : Type 0} (d : X) (P : Type 0) → None ≡ Some d → P
no_opens d P e = absurd (none_some d None refl e)

pub mark_keeps : (x : List ℕ) (D E : List ℕ → Option Dialogue) (c : Option (List ℕ)) → MarkNames x D c
    → ((j : List ℕ) → c ≡ Some j → IsUpdateOf x (D j) → IsUpdateOf x (E j)) → MarkNames x E c
mark_keeps x D E None m h = tt
mark_keeps x D E (Some j) m h = h j refl m

-- a new dialogue leaves the marked one
pub opens_keeps : (x : List ℕ) (E : List ℕ → Option Dialogue) (new : List ℕ) (d : Dialogue) (j : List ℕ) → E new ≡ None → IsUpdateOf x (E j)
    → IsUpdateOf x (put E new (Some d) j)
opens_keeps x E new d j e u = put_cases E new (Some d) j (λ v. IsUpdateOf x v)
    (λ n. absurd (let P : Option Dialogue → Type 0 = λ v. IsUpdateOf x v in subst P (ap E (sym n) ∙ e) u)) (λ n. u)

-- a record with the same mark
pub record_keeps : (x : List ℕ) (D E : List ℕ → Option Dialogue) (s : Subscriber) → SoundRecord D x s
    → ((j : List ℕ) → s.current ≡ Some j → IsUpdateOf x (D j) → IsUpdateOf x (E j)) → SoundRecord E x s
record_keeps x D E s g h = record { mark = mark_keeps x D E s.current g.mark h; purged = g.purged; withdrawn = g.withdrawn }

module _ (L : Local) (D : List ℕ → Option Dialogue) (began vlr : Option (List ℕ)) (new : List ℕ) (before : SoundBefore L D) where
  pub good_unchanged : (out : List Out) → Quiet out → Good L D None began vlr new (unchanged L out)
  good_unchanged out q = record {
    known = refl;
    sound = λ f s e. before s e;
    stays = λ d e. no_opens d _ e;
    opens = λ d e. no_opens d _ e;
    alone = λ d j e. no_opens d _ e;
    holds = λ w. q L.imsi (is_some L.record_of) began (serving L.record_of) w;
    others = λ y b h w e. q y false b h w;
  }

  -- a change of the record that leaves the mark, the holders and the dialogues
  good_record : (s t : Subscriber) (out : List Out) → L.record_of ≡ Some s → Quiet out → t.current ≡ s.current → t.register ≡ s.register
      → (t.register ≡ None → t.purged ≡ false) → (t.withdrawn ≡ true → (t.register ≡ None) × (t.current ≡ None))
      → Good L D None began vlr new (record { after = Some t; stays = None; opens = None; sent = out })
  good_record s t out r q c g p w = record {
    known = sym (ap (λ o. is_some o) r);
    sound = λ f u e. let same_record : t ≡ u = cc in subst (λ v. SoundRecord D L.imsi v) same_record
        (record { mark = subst (λ m. MarkNames L.imsi D m) (sym c) (before s r).mark; purged = p; withdrawn = w });
    stays = λ d e. no_opens d _ e;
    opens = λ d e. no_opens d _ e;
    alone = λ d j e. no_opens d _ e;
    holds = λ v. q L.imsi (is_some L.record_of) began (serving L.record_of) v ∙ ap (λ o. serving o v) r ∙ ap (λ o. served_by o v) (sym g);
    others = λ y b h v e. q y false b h v;
  }

-- Begins

module _ (L : Local) (D : List ℕ → Option Dialogue) (began : Option (List ℕ)) (new : List ℕ) (before : SoundBefore L D) where
  pub good_update_opened : (a : Initiator) (k : ℤ) (reg : Register) (s : Subscriber) → L.record_of ≡ Some s → s.withdrawn ≡ false
      → Good L D None began (Some reg.vlr) new (update_opened L a k reg s new)
  good_update_opened a k reg s r w = record {
    known = sym (ap (λ o. is_some o) r);
    sound = λ f u e.
        let same_record : (let t : Subscriber = record s { current = Some new } in t) ≡ u = cc in
        subst (λ v. SoundRecord (after_dialogues D None new (update_opened L a k reg s new)) L.imsi v) same_record
        (record {
          mark = let P : Option Dialogue → Type 0 = λ v. IsUpdateOf L.imsi v in subst P (sym (put-same D new _)) (refl, tt);
          purged =
              (before s r).purged;
          withdrawn = λ h. absurd (both_ways _ w h);
        });
    stays = λ d e. no_opens d _ e;
    opens = λ d e. (
      let P : Dialogue → Type 0 = λ v. Like L.imsi (Some reg.vlr) v in subst P (some_inj _ _ _ refl e)
          (record { subscriber = refl; has_sent = refl; vlr_is = refl; rising = rising_inserts L.clock s.codes }),
      ap (λ o. is_some o) r,
    );
    alone = λ d j e i. absurd (none_some j None refl i);
    holds = λ v. ap (λ o. serving o v) r;
    others = λ y b h v e. refl;
  }

  pub good_update_begins : (a : Initiator) (k : ℤ) (reg : Register) (R : Option Subscriber) → L.record_of ≡ R
      → Good L D None began (Some reg.vlr) new (update_begins L a k reg R new)
  good_update_begins a k reg None r = good_unchanged L D began _ new before _ (λ y is_y b h w. refl)
  good_update_begins a k reg (Some s) r = withdrawn s.withdrawn refl
    where
      allowed : (t : Bool) → s.withdrawn ≡ false → Good L D None began (Some reg.vlr) new
          (cond t (update_opened L a k reg s new) (unchanged L (end_of_begin a (SentError k ROAMING_NOT_ALLOWED ∷ []))))
      allowed true w = good_update_opened a k reg s r w
      allowed false w = good_unchanged L D began _ new before _ (λ y is_y b h w. refl)

      withdrawn : (t : Bool) → s.withdrawn ≡ t → Good L D None began (Some reg.vlr) new
          (cond t (unchanged L (end_of_begin a (SentError k UNKNOWN_SUBSCRIBER ∷ [])))
          (cond (is_allowed s.roam reg.vlr) (update_opened L a k reg s new) (unchanged L (end_of_begin a (SentError k ROAMING_NOT_ALLOWED ∷ [])))))
      withdrawn true w = good_unchanged L D began _ new before _ (λ y is_y b h w. refl)
      withdrawn false w = allowed (is_allowed s.roam reg.vlr) w

  pub good_purge : (a : Initiator) (k : ℤ) (vlr : Option (List ℕ)) (R : Option Subscriber) → L.record_of ≡ R → Good L D None began None new (purge L a k vlr R)
  good_purge a k None R r = good_unchanged L D began _ new before _ (λ y is_y b h w. refl)
  good_purge a k (Some vlr) None r = good_unchanged L D began _ new before _ (λ y is_y b h w. refl)
  good_purge a k (Some vlr) (Some s) r = withdrawn s.withdrawn refl
    where
      same_digits : (reg : Register) → s.register ≡ Some reg → s.withdrawn ≡ false → (t : Bool)
          → Good L D None began None new (cond t (record {
            after = Some (record s { purged = true });
            stays = None;
            opens = None;
            sent = end_of_begin a
                (PurgeResult k true ∷ []);
          }) (unchanged L (end_of_begin a (PurgeResult k false ∷ []))))
      same_digits reg g w true = good_record L D began None new before s (record s { purged = true }) _ r (λ y is_y b h v. refl) refl refl
          (λ n. absurd (none_some reg _ n g)) (λ h. absurd (both_ways _ w h))
      same_digits reg g w false = good_unchanged L D began _ new before _ (λ y is_y b h w. refl)

      at_register : (g : Option Register) → s.register ≡ g → s.withdrawn ≡ false → Good L D None began None new (purge_at L a k s vlr g)
      at_register None g w = good_unchanged L D began _ new before _ (λ y is_y b h w. refl)
      at_register (Some reg) g w = same_digits reg g w (same reg.vlr vlr)

      withdrawn : (t : Bool) → s.withdrawn ≡ t → Good L D None began None new
          (cond t (unchanged L (end_of_begin a (SentError k UNKNOWN_SUBSCRIBER ∷ []))) (purge_at L a k s vlr s.register))
      withdrawn true w = good_unchanged L D began _ new before _ (λ y is_y b h w. refl)
      withdrawn false w = at_register s.register refl w

  -- an answer that is no updateLocation result
  quiet_route : (a : Initiator) (k : ℤ) (x : List ℕ) (R : Option Subscriber) → Quiet (end_of_begin a (route_component k (sm_route x R) ∷ []))
  quiet_route a k x R y is_y b h w = by (sm_route x R)
    where
      by : (answer : RouteAnswer) → held_after y is_y b (end_of_begin a (route_component k answer ∷ [])) h w ≡ h w
      by (NoRoute error) = refl
      by (RouteTo imsi msc lmsi) = refl

  pub good_procedure : (a : Initiator) (k : ℤ) (p : Argument) → Good L D None began (vlr_of_argument (Some p)) new (procedure L a k p new)
  good_procedure a k (Update imsi reg) = good_update_begins a k reg L.record_of refl
  good_procedure a k (Purge imsi vlr) = good_purge a k vlr L.record_of refl
  good_procedure a k (Route msisdn) = good_unchanged L D began _ new before _ (quiet_route a k L.imsi L.record_of)
  good_procedure a k BadValue = good_unchanged L D began _ new before _ (λ y is_y b h w. refl)

  good_begun : (a : Initiator) (s : Option ℤ) (p : Option Argument) → Good L D None began (vlr_of_argument p) new (begun L a s p new)
  good_begun a None p = good_unchanged L D began _ new before _ (λ y is_y b h w. refl)
  good_begun a (Some k) None = good_unchanged L D began _ new before _ (λ y is_y b h w. refl)
  good_begun a (Some k) (Some p) = good_procedure a k p

  good_begins_in : (from r : List ℕ) (c : Context) (cs : List Component)
      → Good L D None began (vlr_of_argument (first_argument cs)) new (begins_in L from r c cs new)
  unfolding effect
  good_begins_in from r c [] = good_unchanged L D began _ new before _ (λ y is_y b h w. refl)
  good_begins_in from r c (k ∷ ks) = good_begun _ _ _

  good_begins_named : (from r name : List ℕ) (c : Option Context) (cs : List Component)
      → Good L D None began (vlr_of_argument (first_argument cs)) new (begins_named L from r name c cs new)
  good_begins_named from r name None cs = good_unchanged L D began _ new before _ (λ y is_y b h w. refl)
  good_begins_named from r name (Some c) cs = good_begins_in from r c cs

  pub good_begins : (from r : List ℕ) (p : Option (List ℕ)) (cs : List Component)
      → Good L D None began (vlr_of_argument (first_argument cs)) new (begins L from r p cs new)
  good_begins from r None cs = good_unchanged L D began _ new before _ (λ y is_y b h w. refl)
  good_begins from r (Some name) cs = good_begins_named from r name (accepted name) cs

-- a dialogue that is open

quiet_ended : (t : Transaction) (r : Option (List ℕ)) (rejects : List Rejection) (k : ℤ) (code : ℕ)
    → Quiet (end_in_dialogue t r rejects (SentError k code ∷ []))
quiet_ended t None rejects k code y is_y b h w = refl
quiet_ended t (Some r) rejects k code y is_y b h w = refl

quiet_bare : (t : Transaction) (r : Option (List ℕ)) (rejects : List Rejection) → Quiet (end_in_dialogue t r rejects [])
quiet_bare t None rejects y is_y b h w = refl
quiet_bare t (Some r) rejects y is_y b h w = refl

quiet_continued : (i : List ℕ) (t : Transaction) (r : Option (List ℕ)) (rejects : List Rejection) → Quiet (continue_in_dialogue i t r rejects)
quiet_continued i t r [] y is_y b h w = refl
quiet_continued i t None (c ∷ cs) y is_y b h w = refl
quiet_continued i t (Some r) (c ∷ cs) y is_y b h w = refl

-- the open dialogue that an event names: as it stands among the dialogues, its transaction aside
pub record At (L : Local) (D : List ℕ → Option Dialogue) (i : List ℕ) (d : Dialogue) : Type 0 where
  pub known : IsTrue (is_some L.record_of)
  pub subscriber : d.subscriber ≡ L.imsi
  pub there : (e : Dialogue) × (D i ≡ Some e) × (e.subscriber ≡ L.imsi) × (e.kind ≡ d.kind)
  pub rising : AreRising d.invocations

module _ (L : Local) (D : List ℕ → Option Dialogue) (vlr : Option (List ℕ)) (new i : List ℕ) (d : Dialogue) (before : SoundBefore L D)
    (there : At L D i d) where
  -- the new id names no dialogue, so it is not this one
  not_new : D new ≡ None → i ≡ new → ⊥
  not_new f e = none_some there.there.0 (D new) f (ap D (sym e) ∙ there.there.1)

  -- without the named dialogue, a mark on another stays
  gone : (j : List ℕ) → (i ≡ j → ⊥) → IsUpdateOf L.imsi (D j) → IsUpdateOf L.imsi (put D i None j)
  gone j ne u = let P : Option Dialogue → Type 0 = λ v. IsUpdateOf L.imsi v in subst P (sym (put-other D i None j ne)) u

  -- the dialogue is gone and the mark is off, and nothing opens
  closed : (out : List Out) (b : Option (List ℕ)) → Quiet out → Good L D (Some i) b vlr new
      (record { after = unmarked i L.record_of; stays = None; opens = None; sent = out })
  closed out b q = go L.record_of refl
    where
      go : (R : Option Subscriber) → L.record_of ≡ R → Good L D (Some i) b vlr new (record { after = unmarked i R; stays = None; opens = None; sent = out })
      go None r = record {
        known = sym (ap (λ o. is_some o) r);
        sound = λ f s e. no_opens s _ e;
        stays = λ d e. no_opens d _ e;
        opens = λ d e. no_opens d _ e;
        alone = λ d j e. no_opens d _ e;
        holds = λ w. q L.imsi (is_some L.record_of) b (serving L.record_of) w ∙ ap (λ o. serving o w) r;
        others = λ y b h w e. q y false b h w;
      }
      go (Some s) r = record {
        known = sym (ap (λ o. is_some o) r);
        sound = λ f u e. subst (λ v. SoundRecord (put D i None) L.imsi v) (some_inj _ _ _ refl e) (split (is_marked s.current i) refl);
        stays = λ d e. no_opens d _ e;
        opens = λ d e. no_opens d _ e;
        alone = λ d j e. no_opens d _ e;
        holds = λ w. q L.imsi (is_some L.record_of) b (serving L.record_of) w ∙ ap (λ o. serving o w) r ∙ same_register (is_marked s.current i) w;
        others = λ y b h w e. q y false b h w;
      }
        where
          same_register : (t : Bool) (w : List ℕ) → serving (Some s) w ≡ serving (Some (cond t (record s { current = None }) s)) w
          same_register true w = refl
          same_register false w = refl

          split : (t : Bool) → is_marked s.current i ≡ t → SoundRecord (put D i None) L.imsi (cond t (record s { current = None }) s)
          split true m = record { mark = tt; purged = (before s r).purged; withdrawn = λ h. (((before s r).withdrawn h).0, refl) }
          split false m = record_keeps L.imsi D (put D i None) s (before s r)
              (λ j c u. gone j (λ e. both_ways _ (ap (λ o. is_marked o i) (sym c) ∙ m) (is_same j i (sym e))) u)

  pub good_closes : (b : Option (List ℕ)) → Good L D (Some i) b vlr new (closes L i)
  good_closes b = closed [] b (λ y is_y b h w. refl)

  pub good_update_fails : (k : ℤ) (rejects : List Rejection) (b : Option (List ℕ)) → Good L D (Some i) b vlr new (update_fails L i d k rejects)
  good_update_fails k rejects b = closed _ b (quiet_ended d.transaction d.transaction.remote rejects k SYSTEM_FAILURE)

  -- a dialogue that is no update is gone, and nothing opens
  pub good_other_closes : (out : List Out) (b : Option (List ℕ)) → Quiet out → (IsUpdate d.kind → ⊥)
      → Good L D (Some i) b vlr new (record { after = L.record_of; stays = None; opens = None; sent = out })
  good_other_closes out b q other = record {
    known = refl;
    sound = λ f s e. record_keeps L.imsi D (put D i None) s (before s e) (λ j c u. gone j (λ ij. other (other_kind j ij u)) u);
    stays = λ d e. no_opens d _ e;
    opens = λ d e. no_opens d _ e;
    alone = λ d j e. no_opens d _ e;
    holds = λ w. q L.imsi (is_some L.record_of) b (serving L.record_of) w;
    others = λ y b h w e. q y false b h w;
  }
    where
      kind_of : (o : Option Dialogue) → o ≡ Some there.there.0 → IsUpdateOf L.imsi o → IsUpdate d.kind
      kind_of None e u = absurd u
      kind_of (Some f) e u = let same_one : f ≡ there.there.0 = cc in subst (λ k. IsUpdate k) (ap (λ (x : Dialogue). x.kind) same_one ∙ there.there.3) u.1

      other_kind : (j : List ℕ) → i ≡ j → IsUpdateOf L.imsi (D j) → IsUpdate d.kind
      other_kind j ij u = kind_of (D j) (ap D (sym ij) ∙ there.there.1) u

  -- the dialogue stays with other invocations
  good_stays : (vs : List Invocation) (out : List Out) → Quiet out → any_sent vs ≡ true → AreRising vs
      → Good L D (Some i) (vlr_of_kind d.kind) vlr new (record { after = L.record_of; stays = Some (record d { invocations = vs }); opens = None; sent = out })
  good_stays vs out q sent rising = record {
    known = refl;
    sound = λ f s e. record_keeps L.imsi D _ s (before s e) (λ j c u. put_cases D i _ j (λ v. IsUpdateOf L.imsi v) (λ ij. (there.subscriber, still j ij u))
        (λ ne. u));
    stays = λ e h. let P : Dialogue → Type 0 = λ v. Like L.imsi (vlr_of_kind d.kind) v in subst P (some_inj _ _ _ refl h)
        (record { subscriber = there.subscriber; has_sent = sent; vlr_is = refl; rising = rising });
    opens = λ d e. no_opens d _ e;
    alone = λ d j e. no_opens d _ e;
    holds = λ w. q L.imsi (is_some L.record_of) (vlr_of_kind d.kind) (serving L.record_of) w;
    others = λ y b h w e. q y false b h w;
  }
    where
      kind_of : (o : Option Dialogue) → o ≡ Some there.there.0 → IsUpdateOf L.imsi o → IsUpdate d.kind
      kind_of None e u = absurd u
      kind_of (Some f) e u = let same_one : f ≡ there.there.0 = cc in subst (λ k. IsUpdate k) (ap (λ (x : Dialogue). x.kind) same_one ∙ there.there.3) u.1

      still : (j : List ℕ) → i ≡ j → IsUpdateOf L.imsi (D j) → IsUpdate d.kind
      still j ij u = kind_of (D j) (ap D (sym ij) ∙ there.there.1) u

  pub good_goes_on : (rejects : List Rejection) (vs : List Invocation) → any_sent vs ≡ true → AreRising vs
      → Good L D (Some i) (vlr_of_kind d.kind) vlr new (goes_on L i d rejects vs)
  good_goes_on rejects vs sent rising = good_stays vs _ (quiet_continued i d.transaction d.transaction.remote rejects) sent rising

  pub good_forgets : (vs : List Invocation) → any_sent vs ≡ true → AreRising vs
      → Good L D (Some i) (vlr_of_kind d.kind) vlr new (record { after = L.record_of; stays = Some (record d { invocations = vs }); opens = None; sent = [] })
  good_forgets vs sent rising = good_stays vs [] (λ y is_y b h w. refl) sent rising

-- an update that completes: who holds the subscriber

cond_same : (t : Bool) → cond t true false ≡ t
cond_same true = refl
cond_same false = refl

-- the old register, if another, has been sent a cancel
told : (old vlr w : List ℕ) → same old vlr ≡ false → cond (same old w) false (cond (same vlr w) true (same old w)) ≡ same vlr w
told old vlr w ne = go (same old w) refl
  where
    go : (t : Bool) → same old w ≡ t → cond t false (cond (same vlr w) true t) ≡ same vlr w
    go true e = sym (not_same vlr w (λ v. same_not old vlr ne (same_is old w e ∙ sym v)))
    go false e = cond_same (same vlr w)

-- the register comes back to the same digits
kept : (old vlr w : List ℕ) → same old vlr ≡ true → cond (same vlr w) true (same old w) ≡ same vlr w
kept old vlr w e = ap (λ (o : List ℕ). cond (same vlr w) true (same o w)) (same_is old vlr e) ∙ go (same vlr w)
  where
    go : (t : Bool) → cond t true t ≡ t
    go true = refl
    go false = refl

module _ (L : Local) (D : List ℕ → Option Dialogue) (new i : List ℕ) (d : Dialogue) (before : SoundBefore L D) (there : At L D i d) (reg : Register) (k : ℤ)
    (rejects : List Rejection) (s : Subscriber) (is_record : L.record_of ≡ Some s) (marked : is_marked s.current i ≡ true) where
  done : Subscriber
  done = record s { register = Some reg; purged = false; current = None }

  not_withdrawn : s.withdrawn ≡ true → ⊥
  not_withdrawn h = both_ways _ (ap (λ o. is_marked o i) ((before s is_record).withdrawn h).1) marked

  sound_done : (E : List ℕ → Option Dialogue) → SoundRecord E L.imsi done
  unfolding done
  sound_done E = record { mark = tt; purged = λ n. absurd (none_some reg _ n refl); withdrawn = λ h. absurd (not_withdrawn h) }

  good_update_done : (r : List ℕ) (old : Option Register) → s.register ≡ old
      → Good L D (Some i) (Some reg.vlr) None new (update_done L reg s (end_in_dialogue d.transaction (Some r) rejects (UpdateResult k L.hlr ∷ [])) new old)
  unfolding done
  good_update_done r None g = record {
    known = sym (ap (λ o. is_some o) is_record);
    sound = λ f u e. subst (λ v. SoundRecord (put D i None) L.imsi v) (some_inj _ _ _ refl e) (sound_done (put D i None));
    stays = λ d e. no_opens d _ e;
    opens = λ d e. no_opens d _ e;
    alone = λ d j e. no_opens d _ e;
    holds = λ w. ap (λ o. held_after L.imsi (is_some o) (Some reg.vlr) (end_in_dialogue d.transaction (Some r) rejects (UpdateResult k L.hlr ∷ []))
        (serving o) w) is_record
        ∙ ap (λ o. held_after L.imsi true (Some reg.vlr) (end_in_dialogue d.transaction (Some r) rejects (UpdateResult k L.hlr ∷ [])) (served_by o) w) g
        ∙ cond_same (same reg.vlr w);
    others = λ y b h w e. refl;
  }
  good_update_done r (Some old) g = split (same old.vlr reg.vlr) refl
    where
      split : (t : Bool) → same old.vlr reg.vlr ≡ t → Good L D (Some i) (Some reg.vlr) None new (record {
        after = Some (record s { register = Some reg; purged = false; current = None });
        stays = None;
        opens = cond t None (Some (cancel L old.vlr 1 UpdateProcedure));
        sent = end_in_dialogue d.transaction (Some r) rejects (UpdateResult k L.hlr ∷ []) ++ cond t [] (cancel_begin L old.vlr UpdateProcedure new);
      })
      split true t = record {
        known = sym (ap (λ o. is_some o) is_record);
        sound = λ f u e. subst (λ v. SoundRecord (put D i None) L.imsi v) (some_inj _ _ _ refl e) (sound_done (put D i None));
        stays = λ d e. no_opens d _ e;
        opens = λ d e. no_opens d _ e;
        alone = λ d j e. no_opens d _ e;
        holds = λ w. ap (λ o. held_after L.imsi (is_some o) (Some reg.vlr) (end_in_dialogue d.transaction (Some r) rejects (UpdateResult k L.hlr ∷ []))
            (serving o) w) is_record
            ∙ ap (λ o. held_after L.imsi true (Some reg.vlr) (end_in_dialogue d.transaction (Some r) rejects (UpdateResult k L.hlr ∷ [])) (served_by o) w) g
            ∙ kept old.vlr reg.vlr w t;
        others = λ y b h w e. refl;
      }
      split false t = record {
        known = sym (ap (λ o. is_some o) is_record);
        sound = λ f u e. subst (λ v. SoundRecord (put (put D i None) new (Some (cancel L old.vlr 1 UpdateProcedure))) L.imsi v) (some_inj _ _ _ refl e)
            (sound_done _);
        stays = λ d e. no_opens d _ e;
        opens = λ e h. (
          let P : Dialogue → Type 0 = λ v. Like L.imsi None v in subst P (some_inj _ _ _ refl h)
              (record { subscriber = refl; has_sent = refl; vlr_is = refl; rising = (tt, tt) }),
          there.known,
        );
        alone = λ d j e h. refl;
        holds = λ w. ap (λ o. held_after L.imsi (is_some o) (Some reg.vlr)
            (end_in_dialogue d.transaction (Some r) rejects (UpdateResult k L.hlr ∷ []) ++ cancel_begin L old.vlr UpdateProcedure new)
            (serving o) w) is_record
            ∙ ap (λ o. held_after L.imsi true (Some reg.vlr) (end_in_dialogue d.transaction (Some r) rejects (UpdateResult k L.hlr ∷ [])
            ++ cancel_begin L old.vlr UpdateProcedure new) (served_by o) w) g
            ∙ rw (same_refl L.imsi) (told old.vlr reg.vlr w t);
        others = λ y b h w o. let e : same L.imsi y ≡ false = other_is L y there.known o in rw e;
      }

-- a received Continue

pub goes_on_sent : (failed still : Bool) → conclusion_of failed still ≡ GoesOn → still ≡ true
unfolding conclusion_of
goes_on_sent true still e = cc
goes_on_sent false true e = refl
goes_on_sent false false e = cc

module _ (L : Local) (D : List ℕ → Option Dialogue) (new i : List ℕ) (d : Dialogue) (before : SoundBefore L D) (there : At L D i d) where
  good_update_completes : (reg : Register) (k : ℤ) (rejects : List Rejection) → IsTrue (is_some d.transaction.remote) → (R : Option Subscriber)
      → L.record_of ≡ R → Good L D (Some i) (Some reg.vlr) None new (update_completes L i d reg k rejects new R)
  good_update_completes reg k rejects active None r = good_update_fails L D None new i d before there k rejects (Some reg.vlr)
  good_update_completes reg k rejects active (Some s) r = split (is_marked s.current i) refl
    where
      with_remote : is_marked s.current i ≡ true → (q : Option (List ℕ)) → IsTrue (is_some q)
          → Good L D (Some i) (Some reg.vlr) None new (update_done L reg s (end_in_dialogue d.transaction q rejects (UpdateResult k L.hlr ∷ [])) new s.register)
      with_remote m None a = absurd (both_ways false refl a)
      with_remote m (Some q) a = good_update_done L D new i d before there reg k rejects s r m q s.register refl

      split : (t : Bool) → is_marked s.current i ≡ t → Good L D (Some i) (Some reg.vlr) None new
          (cond t (update_done L reg s (end_in_dialogue d.transaction d.transaction.remote rejects (UpdateResult k L.hlr ∷ [])) new s.register)
          (update_fails L i d k rejects))
      split true m = with_remote m d.transaction.remote active
      split false m = good_update_fails L D None new i d before there k rejects (Some reg.vlr)

  good_update_part : (reg : Register) (k : ℤ) (e : Effect) (c : Conclusion) → d.kind ≡ Updates reg k → IsTrue (is_some d.transaction.remote)
      → (c ≡ GoesOn → any_sent e.invocations ≡ true) → AreRising e.invocations
      → Good L D (Some i) (Some reg.vlr) None new (update_continues L i d reg k e c new)
  good_update_part reg k e HasFailed q a h z = good_update_fails L D None new i d before there k e.rejects (Some reg.vlr)
  good_update_part reg k e HasSucceeded q a h z = good_update_completes reg k e.rejects a L.record_of refl
  good_update_part reg k e GoesOn q a h z = let P : Option (List ℕ)
      → Type 0 = λ v. Good L D (Some i) v None new (goes_on L i d e.rejects e.invocations) in subst P (ap (λ o. vlr_of_kind o) q)
      (good_goes_on L D None new i d before there e.rejects e.invocations (h refl) z)

  good_other_part : (e : Effect) (c : Conclusion) → (IsUpdate d.kind → ⊥) → (c ≡ GoesOn → any_sent e.invocations ≡ true) → AreRising e.invocations
      → Good L D (Some i) (vlr_of_kind d.kind) None new (other_continues L i d e c)
  good_other_part e HasFailed other h z = good_other_closes L D None new i d before there _ _ (quiet_bare d.transaction d.transaction.remote e.rejects) other
  good_other_part e HasSucceeded other h z = good_other_closes L D None new i d before there _ _ (quiet_bare d.transaction d.transaction.remote e.rejects) other
  good_other_part e GoesOn other h z = good_goes_on L D None new i d before there e.rejects e.invocations (h refl) z

  good_part_of : (kind : Kind) (e : Effect) → d.kind ≡ kind → IsTrue (is_some d.transaction.remote) → (e.conclusion ≡ GoesOn → any_sent e.invocations ≡ true)
      → AreRising e.invocations → Good L D (Some i) (vlr_of_kind d.kind) None new (continues_as L i d kind e new)
  good_part_of (Updates reg k) e q a h z = let P : Option (List ℕ)
      → Type 0 = λ v. Good L D (Some i) v None new (update_continues L i d reg k e e.conclusion new) in subst P (sym (ap (λ o. vlr_of_kind o) q))
      (good_update_part reg k e e.conclusion q a h z)
  good_part_of (Cancels vlr attempt cancellation) e q a h z = good_other_part e e.conclusion (λ u. subst (λ o. IsUpdate o) q u) h z
  good_part_of Data e q a h z = good_other_part e e.conclusion (λ u. subst (λ o. IsUpdate o) q u) h z

  pub good_continues : (cs : List Component) → IsTrue (is_some d.transaction.remote) → Good L D (Some i) (vlr_of_kind d.kind) None new (continues L i d cs new)
  unfolding effect
  good_continues cs a = good_part_of d.kind _ refl a (λ h. goes_on_sent _ _ h) (rising_after L.clock cs d.invocations there.rising)

  -- expiries

  -- not the serving register
  not_serving : (vlr : List ℕ) (R : Option Subscriber) → IsTrue (is_some R) → is_wanted L vlr R ≡ false → serving R vlr ≡ false
  not_serving vlr None a h = absurd (both_ways false refl a)
  not_serving vlr (Some s) a h = at_register s.register (left_false (is_register vlr s.register) (is_register vlr (current_register L s.current)) h)
    where
      left_false : (a b : Bool) → (a || b) ≡ false → a ≡ false
      left_false true b e = cc
      left_false false b e = refl

      at_register : (g : Option Register) → is_register vlr g ≡ false → served_by g vlr ≡ false
      at_register None e = refl
      at_register (Some reg) e = e

  removed_other : (h : Holding) (v w : List ℕ) → h v ≡ false → removed v h w ≡ h w
  removed_other h v w e = go (same v w) refl
    where
      go : (t : Bool) → same v w ≡ t → cond t false (h w) ≡ h w
      go true q = sym (ap h (sym (same_is v w q)) ∙ e)
      go false q = refl

  -- a cancel that is repeated
  good_repeated : (vlr : List ℕ) (attempt : ℕ) (cancellation : CancellationType) → (IsUpdate d.kind → ⊥) → (again : Bool)
      → (again ≡ true → serving L.record_of vlr ≡ false) → Good L D (Some i) (vlr_of_kind d.kind) None new (record {
        after = L.record_of;
        stays = None;
        opens = cond again (Some (cancel L vlr (attempt + 1) cancellation)) None;
        sent = end_in_dialogue d.transaction d.transaction.remote [] [] ++ cond again (cancel_begin L vlr cancellation new) [];
      })
  good_repeated vlr attempt cancellation other false h = good_other_closes L D None new i d before there _ _
      (λ y is_y b g w. bare d.transaction.remote y is_y b g w) other
    where
      bare : (r : Option (List ℕ)) → Quiet (end_in_dialogue d.transaction r [] [] ++ [])
      bare None y is_y b g w = refl
      bare (Some r) y is_y b g w = refl
  good_repeated vlr attempt cancellation other true h = record {
    known = refl;
    sound = λ f s e. record_keeps L.imsi (put D i None) _ s
        ((good_other_closes L D None new i d before there [] None (λ y is_y b g w. refl) other).sound (λ no_one. absurd (both_ways false refl no_one)) s e)
        (λ j c u. opens_keeps L.imsi (put D i None) new _ j (put_cases D i None new (λ v. v ≡ None) (λ _. refl) (λ _. f refl)) u);
    stays = λ d e. no_opens d _ e;
    opens = λ e q. (
      let P : Dialogue → Type 0 = λ v. Like L.imsi None v in subst P (some_inj _ _ _ refl q)
          (record { subscriber = refl; has_sent = refl; vlr_is = refl; rising = (tt, tt) }),
      there.known,
    );
    alone = λ d j e q. refl;
    holds = λ w. told_at d.transaction.remote w;
    others = λ y b g w o. other_at d.transaction.remote y b g w (other_is L y there.known o);
  }
    where
      told_at : (r : Option (List ℕ)) (w : List ℕ) → held_after L.imsi (is_some L.record_of) (vlr_of_kind d.kind)
          (end_in_dialogue d.transaction r [] [] ++ cancel_begin L vlr cancellation new) (serving L.record_of) w ≡ serving L.record_of w
      told_at None w = rw (same_refl L.imsi) (removed_other (serving L.record_of) vlr w (h refl))
      told_at (Some r) w = rw (same_refl L.imsi) (removed_other (serving L.record_of) vlr w (h refl))

      other_at : (r : Option (List ℕ)) (y : List ℕ) (b : Option (List ℕ)) (g : Holding) (w : List ℕ) → same L.imsi y ≡ false
          → held_after y false b (end_in_dialogue d.transaction r [] [] ++ cancel_begin L vlr cancellation new) g w ≡ g w
      other_at None y b g w e = rw e
      other_at (Some r) y b g w e = rw e

  good_sent_expires : (kind : Kind) → d.kind ≡ kind → Good L D (Some i) (vlr_of_kind d.kind) None new (sent_expires L i d kind new)
  good_sent_expires (Updates reg k) q = good_update_fails L D None new i d before there k [] _
  good_sent_expires (Cancels vlr attempt cancellation) q = good_repeated vlr attempt cancellation (λ u. subst (λ o. IsUpdate o) q u) (is_repeated L vlr attempt)
      (λ h. not_serving vlr L.record_of there.known (not-true _ (and_parts _ _ h).1))
  good_sent_expires Data q = good_other_closes L D None new i d before there _ _ (quiet_bare d.transaction d.transaction.remote [])
      (λ u. subst (λ o. IsUpdate o) q u)

  forgotten_sent : (j : ℤ) (vs : List Invocation) (v : Invocation) → invocation_of j vs ≡ Some v → v.was ≡ WaitForReject → any_sent (without j vs) ≡ any_sent vs
  forgotten_sent j [] v e w = no_opens v _ e
  forgotten_sent j (u ∷ vs) v e w = go (int_eq u.id j) e (λ q. forgotten_sent j vs v q w)
    where
      waits : (was : Was) → was ≡ WaitForReject → is_sent was ≡ false
      waits OperationSent q = cc
      waits WaitForReject q = refl

      go : (t : Bool) → cond t (Some u) (invocation_of j vs) ≡ Some v → (invocation_of j vs ≡ Some v → any_sent (without j vs) ≡ any_sent vs)
          → any_sent (cond t vs (u ∷ without j vs)) ≡ cond (is_sent u.was) true (any_sent vs)
      go true q ih = let not_sent : is_sent u.was ≡ false = waits u.was (ap (λ (x : Invocation). x.was) (some_inj u v _ refl q) ∙ w) in sym
          (ap (λ b. cond b true (any_sent vs)) not_sent)
      go false q ih = ap (λ b. cond (is_sent u.was) true b) (ih q)

  pub good_expires : (j : ℤ) (v : Invocation) → invocation_of j d.invocations ≡ Some v → any_sent d.invocations ≡ true
      → Good L D (Some i) (vlr_of_kind d.kind) None new (expires L i d j v.was new)
  good_expires j v e sent = go v.was refl
    where
      go : (was : Was) → v.was ≡ was → Good L D (Some i) (vlr_of_kind d.kind) None new (expires L i d j was new)
      go OperationSent w = good_sent_expires d.kind refl
      go WaitForReject w = good_forgets L D None new i d before there (without j d.invocations) (forgotten_sent j d.invocations v e w ∙ sent)
          (rising_without j d.invocations there.rising)

-- an expiry sends no result of an update
pub expires_any : (L : Local) (i : List ℕ) (d : Dialogue) (j : ℤ) (was : Was) (new y : List ℕ) (t : Bool) (b c : Option (List ℕ)) (h : Holding) (w : List ℕ)
    → held_after y t b (expires L i d j was new).sent h w ≡ held_after y t c (expires L i d j was new).sent h w
expires_any L i d j WaitForReject new y t b c h w = refl
expires_any L i d j OperationSent new y t b c h w = by_kind d.kind
  where
    repeats : (vlr : List ℕ) (cancellation : CancellationType) (again : Bool) (r : Option (List ℕ))
        → held_after y t b (end_in_dialogue d.transaction r [] [] ++ cond again (cancel_begin L vlr cancellation new) []) h w
        ≡ held_after y t c (end_in_dialogue d.transaction r [] [] ++ cond again (cancel_begin L vlr cancellation new) []) h w
    repeats vlr cancellation true None = refl
    repeats vlr cancellation false None = refl
    repeats vlr cancellation true (Some r) = refl
    repeats vlr cancellation false (Some r) = refl

    by_kind : (kind : Kind) → held_after y t b (sent_expires L i d kind new).sent h w ≡ held_after y t c (sent_expires L i d kind new).sent h w
    by_kind (Updates reg k) = quiet_ended d.transaction d.transaction.remote [] k 34 y t b h w
        ∙ sym (quiet_ended d.transaction d.transaction.remote [] k 34 y t c h w)
    by_kind (Cancels vlr attempt cancellation) = repeats vlr cancellation (is_repeated L vlr attempt) d.transaction.remote
    by_kind Data = quiet_bare d.transaction d.transaction.remote [] y t b h w ∙ sym (quiet_bare d.transaction d.transaction.remote [] y t c h w)
