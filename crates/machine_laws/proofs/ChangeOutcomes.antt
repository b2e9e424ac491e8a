-- What all outcomes of an operator's change have in common.
use Rattle.std.proofs.Common.{◌≡◌, ◌+◌, ◌*◌, take, drop, map, ℕ, pos, List, [], ◌∷◌, Bool, true, false, cond, refl, sym, ap, ◌∙◌, subst, Option, Some, None, is_some}
use Rattle.std.proofs.lemmas.Bool.{both_ways}
use Rattle.std.specs.List.{list_any}
use Rattle.machine.specs.Received.{Register}
use Rattle.machine.specs.Sent.{Insert, SentBegin, SentComponent, SubscriberDataMngt, SubscriptionWithdraw}
use Rattle.machine.specs.State.{Dialogue, Local, Subscriber}
use Rattle.machine.specs.Events.{Change, Codes, Withdraw}
use Rattle.machine.specs.Holders.{is_cancel_of, removed, served_by, serving}
use Rattle.machine.specs.Sound.{SoundRecord}
use Rattle.machine.specs.Outcome.{below, cancel, further, inserts, send, unchanged}
use Rattle.machine.specs.Changes.{change_to, changes, codes_to, data_to, withdraw_from}
use Rattle.machine.specs.Keys.{put, same}
use Rattle.machine_laws.proofs.Keys.{same_refl, none_some, some_inj}
use Rattle.machine_laws.proofs.Rising.{rising_inserts}
use Rattle.machine_laws.proofs.Outcomes.{Quiet, Like, other_is, Good, SoundBefore, no_opens, good_unchanged}

any_map : (p : SentComponent → Bool) (f : ℕ → SentComponent) → ((k : ℕ) → p (f k) ≡ false) → (ks : List ℕ) → list_any p (map f ks) ≡ false
any_map p f h [] = refl
any_map p f h (k ∷ ks) = rw (h k) (any_map p f h ks)

module _ (L : Local) (D : List ℕ → Option Dialogue) (new : List ℕ) (before : SoundBefore L D) where
  good_codes : (s : Subscriber) (codes : List ℕ) (g : Option Register) → L.record_of ≡ Some s → s.register ≡ g → s.withdrawn ≡ false
      → Good L D None None None new (codes_to L s codes new g)
  good_codes s codes None r g w = record {
    known = sym (ap (λ o. is_some o) r);
    sound = λ f u e. subst (λ v. SoundRecord D L.imsi v) (some_inj _ _ _ refl e)
        (record { mark = tt; purged = (before s r).purged; withdrawn = λ h. absurd (both_ways _ w h) });
    stays = λ d e. no_opens d _ e;
    opens = λ d e. no_opens d _ e;
    alone = λ d j e. no_opens d _ e;
    holds = λ v. ap (λ o. serving o v) r;
    others = λ y b h v e. refl;
  }
  good_codes s codes (Some reg) r g w = split s.purged
    where
      changed : Subscriber
      changed = record s { codes = codes; current = None }

      sound_changed : (E : List ℕ → Option Dialogue) → SoundRecord E L.imsi (record s { codes = codes; current = None })
      sound_changed E = record { mark = tt; purged = (before s r).purged; withdrawn = λ h. absurd (both_ways _ w h) }

      split : (t : Bool) → Good L D None None None new (record {
        after = Some (record s { codes = codes; current = None });
        stays = None;
        opens = cond t None (Some (data_to L reg codes));
        sent = cond t [] (send reg.vlr (SentBegin new SubscriberDataMngt (inserts (Some L.imsi) s.msisdn codes)));
      })
      split true = record {
        known = sym (ap (λ o. is_some o) r);
        sound = λ f u e. subst (λ v. SoundRecord D L.imsi v) (some_inj _ _ _ refl e) (sound_changed D);
        stays = λ d e. no_opens d _ e;
        opens = λ d e. no_opens d _ e;
        alone = λ d j e. no_opens d _ e;
        holds = λ v. ap (λ o. serving o v) r;
        others = λ y b h v e. refl;
      }
      split false = record {
        known = sym (ap (λ o. is_some o) r);
        sound = λ f u e. subst (λ v. SoundRecord (put D new (Some (data_to L reg codes))) L.imsi v) (some_inj _ _ _ refl e) (sound_changed _);
        stays = λ d e. no_opens d _ e;
        opens = λ d e. (
          let P : Dialogue → Type 0 = λ v. Like L.imsi None v in subst P (some_inj _ _ _ refl e)
              (record { subscriber = refl; has_sent = refl; vlr_is = refl; rising = rising_inserts L.clock codes }),
          ap (λ o. is_some o) r,
        );
        alone = λ d j e i. absurd (none_some j None refl i);
        holds = λ v. no_cancel L.imsi (is_some L.record_of) None (serving L.record_of) v ∙ ap (λ o. serving o v) r;
        others = λ y b h v e. no_cancel y false b h v;
      }
        where
          no_cancel : Quiet (send reg.vlr (SentBegin new SubscriberDataMngt (inserts (Some L.imsi) s.msisdn codes)))
          no_cancel y is_y b h v = rw (any_map (is_cancel_of y) (λ k. Insert (pos (k + 2)) (Some L.imsi) None (take 8 (drop (8 * (k + 1)) codes))) (λ k. refl)
              (below (further codes))) refl

  good_withdraw : (s : Subscriber) (g : Option Register) → L.record_of ≡ Some s → s.register ≡ g → Good L D None None None new (withdraw_from L s new g)
  good_withdraw s None r g = record {
    known = sym (ap (λ o. is_some o) r);
    sound = λ f u e. subst (λ v. SoundRecord D L.imsi v) (some_inj _ _ _ refl e) (record { mark = tt; purged = λ n. refl; withdrawn = λ h. (refl, refl) });
    stays = λ d e. no_opens d _ e;
    opens = λ d e. no_opens d _ e;
    alone = λ d j e. no_opens d _ e;
    holds = λ v. ap (λ o. serving o v) r ∙ ap (λ o. served_by o v) g;
    others = λ y b h v e. refl;
  }
  good_withdraw s (Some reg) r g = record {
    known = sym (ap (λ o. is_some o) r);
    sound = λ f u e. subst (λ v. SoundRecord (put D new (Some (cancel L reg.vlr 1 SubscriptionWithdraw))) L.imsi v) (some_inj _ _ _ refl e)
        (record { mark = tt; purged = λ n. refl; withdrawn = λ h. (refl, refl) });
    stays = λ d e. no_opens d _ e;
    opens = λ d e. (
      let P : Dialogue → Type 0 = λ v. Like L.imsi None v in subst P (some_inj _ _ _ refl e)
          (record { subscriber = refl; has_sent = refl; vlr_is = refl; rising = (tt, tt) }),
      ap (λ o. is_some o) r,
    );
    alone = λ d j e i. absurd (none_some j None refl i);
    holds = λ v. rw (same_refl L.imsi) (ap (λ o. removed reg.vlr (serving o) v) r ∙ ap (λ o. removed reg.vlr (served_by o) v) g ∙ nobody_left (same reg.vlr v));
    others = λ y b h v o. let e : same L.imsi y ≡ false = other_is L y (ap (λ q. is_some q) r) o in rw e;
  }
    where
      nobody_left : (t : Bool) → cond t false t ≡ false
      nobody_left true = refl
      nobody_left false = refl

  good_change_to : (s : Subscriber) (c : Change) → L.record_of ≡ Some s → s.withdrawn ≡ false → Good L D None None None new (change_to L s c new)
  good_change_to s (Codes codes) r w = good_codes s codes s.register r refl w
  good_change_to s Withdraw r w = good_withdraw s s.register r refl

  pub good_changes : (c : Change) (R : Option Subscriber) → L.record_of ≡ R → Good L D None None None new (changes L c R new)
  good_changes c None r = good_unchanged L D None None new before [] (λ y is_y b h w. refl)
  good_changes c (Some s) r = go s.withdrawn refl
    where
      go : (t : Bool) → s.withdrawn ≡ t → Good L D None None None new (cond t (unchanged L []) (change_to L s c new))
      go true w = good_unchanged L D None None new before [] (λ y is_y b h w. refl)
      go false w = good_change_to s c r w
