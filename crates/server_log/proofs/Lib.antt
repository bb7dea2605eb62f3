mod Safe
