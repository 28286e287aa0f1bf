-- Wrong refusals as the rules tell them, refuted.
use mathlib.Core.Path.{sym, ap}
use native.Mathlib.Omega.{arith}
use Rattle.refusals.specs.Refusals.{Refusal, earlier_route, earlier_hop}
use Rattle.wrong.specs.Numbers.{Numbers}

pub wrong_numbers : Numbers
wrong_numbers =
    record {
      number_lost = λ r n e. n (ap (λ (y : Refusal). y.number) e);
      plain_at_route_1 = λ r e. omega (arith, ap (λ (y : Refusal). y.route) e);
      plain_with_earlier_hop = λ r g n e. n (sym (ap earlier_hop e));
      route_and_hop_exchanged = λ r i h n e. n (ap (λ (y : Refusal). y.route) e);
      hop_from_0 = λ r i h e. omega (arith, ap (λ (y : Refusal). y.hop) e);
      at_with_earlier_route = λ r i h n e. n (sym (ap earlier_route e));
      at_with_earlier_hop = λ r i h n e. n (sym (ap earlier_hop e));
      route_kept = λ r i j h n e. n (sym (ap (λ (y : Refusal). y.route) e));
      hop_lost = λ r i j h n e. n (ap (λ (y : Refusal). y.hop) e);
      earlier_hop_lost = λ r i h j g k n e. n (ap earlier_hop e);
      earlier_route_lost = λ r i h j g k n e. n (ap earlier_route e);
      earlier_route_given = λ r i h j g k n e. n (ap earlier_route e);
      earlier_route_alone_given = λ r i h j g k n e. n (sym (ap (λ (y : Refusal). y.route) e));
      earlier_route_not_set = λ y i h n e. n (sym (ap earlier_route e));
      earlier_hop_not_set = λ y i h n e. n (sym (ap earlier_hop e));
      earlier_exchanged = λ y i h n e. n (ap earlier_route e);
      earlier_hop_from_0 = λ y i h e. omega (arith, ap earlier_hop e);
      own_route_set = λ y i h n e. n (ap (λ (z : Refusal). z.route) e);
      own_hop_set = λ y i h n e. n (ap (λ (z : Refusal). z.hop) e);
      own_hop_lost = λ y i h n e. n (ap (λ (z : Refusal). z.hop) e);
      own_number_lost = λ y i h n e. n (ap (λ (z : Refusal). z.number) e);
    }
