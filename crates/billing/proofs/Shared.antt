-- A pot that a rule has shared, put back.
use Rattle.std.proofs.Common.{◌≡◌, ℕ, List, length, take, Option, ap, arith}
use Rattle.sharing.specs.Rule.{Shares, Fair}
use Rattle.sharing.specs.Refusal.{refusal, placed}
use Rattle.sharing.proofs.Answered.{accepted, placed_front}
use Rattle.billing.specs.Pots.{weights, put_back, pot_shares, Shareable}
use Rattle.billing.proofs.PotLaws.{weights_length}

module _ (shares : Shares) (fair : Fair shares) (pot : ℕ) (claims : List (Option ℕ)) (s : Shareable pot claims) where
  -- the front of the place that the rule wrote holds the shares
  front : (held : List ℕ) → length held ≡ 256 → take (length (weights claims)) (placed (refusal pot (weights claims) (length held)) (shares pot (weights claims)) held) ≡ shares pot (weights claims)
  front held wide =
      let ws = weights claims in
      let few = weights_length claims in
      placed_front (refusal pot ws (length held)) (shares pot ws) held (length ws)
      (accepted pot ws (length held) (omega (arith, s.few)) (omega (arith, s.few)) s.small s.light s.weighed) (fair.long pot ws)

  pub given_back : (ws held after : List ℕ) (n : ℕ) → ws ≡ weights claims → n ≡ length ws → length held ≡ 256 → after ≡ placed (refusal pot ws (length held)) (shares pot ws) held → put_back claims (take n after) ≡ pot_shares shares pot claims
  given_back ws held after n is count wide written = rw (written, count, is) (ap (put_back claims) (front held wide))
